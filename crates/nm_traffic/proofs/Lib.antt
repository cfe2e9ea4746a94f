pub mod Networks
pub mod Options
pub mod Packets
pub mod Rising
