pub mod Drawing
pub mod Asks
