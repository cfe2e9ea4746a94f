pub mod Beginnings
pub mod BookTimes
mod Gatherings
pub mod Incoming
mod Runnings
mod Safety
mod Sendings
pub mod Sisters
pub mod Tellings
