pub mod Making
pub mod Coming
pub mod Joining
