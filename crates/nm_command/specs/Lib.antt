pub mod Command
pub mod Status
