pub mod Startless
pub mod Starting
pub mod Sending
pub mod Lawful
