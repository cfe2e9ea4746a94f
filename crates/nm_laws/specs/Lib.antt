pub mod Counted
pub mod Offered
pub mod ReplicaCalls
pub mod Series
pub mod Sessions
pub mod Transmissions
