mod AnyOrder
pub mod Fresh
mod Heaped
mod Maps
mod Orders
mod Sorted
mod Times
