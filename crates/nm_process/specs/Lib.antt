pub mod Ending
pub mod Process
