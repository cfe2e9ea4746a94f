pub mod InterfaceLines
pub mod Texts
pub mod Times
pub mod Endings
pub mod Ways
mod AskedNames
mod Showings
mod Stepping
pub mod Verifying
pub mod Certifying
pub mod MemFiles
