pub mod Places
pub mod Starts
pub mod Steps
pub mod One
pub mod Sound
