pub mod Packets
pub mod Steps
pub mod Ending
