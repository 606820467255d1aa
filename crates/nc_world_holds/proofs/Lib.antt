pub mod Removals
pub mod Serving
pub mod Granting
pub mod Balancing
pub mod Wholeness
pub mod Holding
pub mod Summing
pub mod Counting
