pub mod Noticed
pub mod Telling
pub mod Framing
pub mod Shaping
pub mod Stepping
pub mod Reaching
