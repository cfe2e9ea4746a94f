pub mod Sources
pub mod Values
pub mod Csv
pub mod Loads
