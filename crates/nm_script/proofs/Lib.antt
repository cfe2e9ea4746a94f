pub mod Parts
pub mod Steps
pub mod Lines
pub mod OneScript
pub mod Printing
