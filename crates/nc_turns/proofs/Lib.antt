pub mod Numbers
pub mod Joining
