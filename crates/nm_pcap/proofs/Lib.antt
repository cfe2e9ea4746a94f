pub mod Files
pub mod Forms
pub mod Outcomes
