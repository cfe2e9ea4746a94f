pub mod Accepting
pub mod Book
pub mod BookPart
pub mod Laws
pub mod Merging
pub mod Running
pub mod Sisters
pub mod Telling
