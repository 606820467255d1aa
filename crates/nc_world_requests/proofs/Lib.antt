pub mod Weighing
pub mod Replying
pub mod Following
pub mod Counted
pub mod Waiting
