pub mod Brought
pub mod Came
