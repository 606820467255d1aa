pub mod ToldPolls
pub mod Seeing
pub mod Sums
pub mod Counting
