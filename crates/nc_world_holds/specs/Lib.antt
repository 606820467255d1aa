pub mod Balance
pub mod Counts
