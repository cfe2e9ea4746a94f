pub mod Outputs
pub mod Names
pub mod TraceFile
pub mod Writing
pub mod Files
pub mod Checked
pub mod Least
pub mod Folder
