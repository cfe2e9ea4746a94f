pub mod Asked
pub mod Period
pub mod Shortage
pub mod Spinning
pub mod Transport
