pub mod Members
pub mod Singly
pub mod Stages
pub mod Starts
