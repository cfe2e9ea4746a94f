pub mod Doubles
pub mod First
pub mod Lines
pub mod Locate
pub mod Place
pub mod Reading
pub mod TableLaws
