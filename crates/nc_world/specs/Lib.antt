pub mod World
pub mod Moves
pub mod Lines
pub mod OwnersRule
pub mod Reached
pub mod Follows
pub mod Laws
