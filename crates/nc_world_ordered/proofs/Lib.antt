pub mod Orders
pub mod Deciding
pub mod Edging
pub mod Calls
pub mod Losses
