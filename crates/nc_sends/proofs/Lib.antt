pub mod Moves
pub mod Spared
pub mod Later
pub mod InWhole
pub mod Resting
pub mod Ready
pub mod Choices
