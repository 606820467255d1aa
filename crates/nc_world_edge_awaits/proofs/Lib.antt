pub mod Few
pub mod Answered
pub mod Apart
pub mod Taking
