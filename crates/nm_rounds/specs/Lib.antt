pub mod World
pub mod Acting
pub mod Replay
pub mod Headline
pub mod Certify
pub mod SameTopology
pub mod Rounds
