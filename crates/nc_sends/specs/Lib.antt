pub mod Fences
pub mod Stays
pub mod Taken
pub mod Chosen
pub mod GoodSends
