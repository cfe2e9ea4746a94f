pub mod Answers
pub mod Octets
pub mod Outcome
pub mod Gain
pub mod Blocks
pub mod Order
