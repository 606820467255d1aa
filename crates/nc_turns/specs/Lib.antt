pub mod Turns
pub mod Transfer
pub mod Worn
pub mod Telling
pub mod Laws
