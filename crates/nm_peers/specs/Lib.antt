pub mod Listeners
pub mod Peers
