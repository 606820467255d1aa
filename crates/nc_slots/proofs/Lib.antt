pub mod First
pub mod Held
pub mod PlainRows
pub mod Runs
pub mod Shown
