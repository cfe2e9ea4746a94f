pub mod Flow
pub mod Kinds
pub mod Orderly
pub mod Samples
pub mod Source
pub mod SourceValues
