pub mod Transmission
pub mod PortValue
pub mod Offers
