pub mod Scans
pub mod Continued
mod Requests
mod Lines
mod Lengths
