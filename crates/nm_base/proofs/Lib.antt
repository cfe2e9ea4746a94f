pub mod Numbered
pub mod Order
pub mod Sinks
pub mod Splits
