pub mod Count
pub mod Event
pub mod Key
pub mod Packet
pub mod Sink
pub mod Text
pub mod Wanted
pub mod Wire
