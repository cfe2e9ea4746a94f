mod Beginnings
mod Channels
pub mod Cuts
mod Doings
mod Kept
mod Networks
mod Openings
mod Outgoings
mod Parts
mod Pendings
mod Reactings
mod Schedules
mod Sendings
mod Recordings
mod Represents
pub mod Stepping
mod Steps
mod Tables
mod Takings
mod Trafficking
mod Tracings
mod Sound
