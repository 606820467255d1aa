pub mod Values
pub mod Numbers
pub mod Names
pub mod Places
pub mod Lines
pub mod Steps
pub mod Ends
pub mod Halves
