pub mod Granted
pub mod Keeping
pub mod Tying
pub mod Unreleased
pub mod Since
pub mod Sending
pub mod Rule
