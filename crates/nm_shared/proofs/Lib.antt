pub mod Clocks
pub mod Boards
pub mod Closings
pub mod Fresh
pub mod News
pub mod Pools
