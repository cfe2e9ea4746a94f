pub mod Tokens
pub mod Grammar
pub mod Script
pub mod Printed
