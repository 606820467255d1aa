pub mod Written
pub mod Sends
pub mod Staying
pub mod Leaving
