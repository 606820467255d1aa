pub mod Packets
pub mod Ring
pub mod Ends
