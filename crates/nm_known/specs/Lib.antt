pub mod Keeping
pub mod Known
pub mod Reading
