pub mod Turns
pub mod Settle
pub mod Ends
