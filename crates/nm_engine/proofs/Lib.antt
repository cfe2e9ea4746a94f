pub mod Readings
pub mod Steps
pub mod Givings
pub mod Writings
pub mod Turns
pub mod Many
pub mod Passes
pub mod Noting
