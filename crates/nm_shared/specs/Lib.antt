pub mod Clock
pub mod Board
pub mod Closing
pub mod Home
pub mod Known
pub mod Counted
pub mod Growing
pub mod Pool
