pub mod Steps
pub mod Reaping
pub mod Unheld
pub mod Retired
