pub mod Shared
pub mod Opened
