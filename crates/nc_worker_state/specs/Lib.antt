pub mod Setup
pub mod Incoming
pub mod Deed
pub mod Spooled
pub mod Owned
pub mod Desk
pub mod Worker
