pub mod Shares
pub mod Grants
pub mod Telling
pub mod Sweeps
pub mod Fences
