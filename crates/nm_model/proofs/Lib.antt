pub mod ListLemmas
pub mod Keys
pub mod Placed
mod Scheduling
mod Effects
mod NewEvents
mod Invariants
mod Runs
pub mod Cut
mod Begin
mod CutLaw
mod Ends
pub mod Accepting
mod Joins
mod Books
mod ToldMore
mod Certified
mod Promises
mod Stated
mod RoundLemmas
mod Worlds
pub mod Traces
mod Numbers
mod Faults
mod Certifying
mod CertifyFaults
mod SameKnowledge
mod Orders
pub mod Untagging
mod TwoHosts
mod NeverFalling
mod Queues
pub mod RecordTimes
mod StepLaws
mod RoundSteps
