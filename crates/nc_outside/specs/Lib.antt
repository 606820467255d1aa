pub mod Fault
pub mod Flow
pub mod Pieces
pub mod Laws
pub mod Memory
