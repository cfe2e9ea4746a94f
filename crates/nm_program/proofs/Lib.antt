pub mod NodeEndings
pub mod RunEndings
