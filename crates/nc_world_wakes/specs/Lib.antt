pub mod Wakes
pub mod Held
