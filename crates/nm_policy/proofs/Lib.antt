pub mod Changes
pub mod Changing
pub mod Events
pub mod Greets
pub mod Periods
pub mod Waiting
