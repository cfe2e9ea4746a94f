pub mod Certify
pub mod Checking
