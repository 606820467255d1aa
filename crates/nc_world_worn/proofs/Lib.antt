pub mod Drawing
pub mod Asking
pub mod Carrying
pub mod Counting
pub mod Meeting
