pub mod Put
pub mod Listing
