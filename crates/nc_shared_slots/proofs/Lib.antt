pub mod Rows
pub mod Polls
pub mod Openings
pub mod Messages
