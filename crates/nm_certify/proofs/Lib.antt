mod Runs
mod Ends
mod Pieces
pub mod Certified
