pub mod Desk
pub mod Release
pub mod Begins
