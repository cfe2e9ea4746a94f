pub mod Pieces
pub mod Records
pub mod Made
pub mod Files
pub mod Folders
pub mod Checked
pub mod Least
