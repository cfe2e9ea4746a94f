pub mod Documents
pub mod FirstPlaces
pub mod Firsts
pub mod Items
pub mod Places
pub mod Repeats
pub mod Steps
pub mod Tables
