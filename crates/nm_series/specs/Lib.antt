pub mod Rows
pub mod Steps
pub mod Series
pub mod Flows
pub mod Buckets
pub mod Packets
