pub mod Ends
pub mod Heads
pub mod Framing
pub mod Covered
