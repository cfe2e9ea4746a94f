pub mod Ending
pub mod Node
pub mod Run
pub mod Surroundings
