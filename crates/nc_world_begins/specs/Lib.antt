pub mod Knowing
pub mod Calls
pub mod Begins
