pub mod Waking
pub mod Keeping
