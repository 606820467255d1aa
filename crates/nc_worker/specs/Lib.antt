pub mod Input
pub mod Parts
pub mod Worker
