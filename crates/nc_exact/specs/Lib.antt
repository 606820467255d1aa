pub mod Sent
pub mod Fares
pub mod Exact
pub mod Carried
