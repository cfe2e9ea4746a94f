pub mod Nexts
mod Differences
mod Blocks
mod Turns
mod Orders
