pub mod Within
pub mod Freeing
pub mod Once
pub mod Carried
pub mod Releasing
