pub mod Sums
pub mod Bares
pub mod Allowed
