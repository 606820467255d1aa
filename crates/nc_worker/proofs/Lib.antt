pub mod Acting
pub mod Returning
pub mod Handling
pub mod Hearing
pub mod Leaving
