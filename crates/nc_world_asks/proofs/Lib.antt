pub mod Drawn
pub mod Counted
pub mod Deleted
pub mod Unlooked
pub mod Reaching
