pub mod Format
pub mod Writing
pub mod Writer
pub mod Outcome
