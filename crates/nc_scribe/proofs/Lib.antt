pub mod Story
pub mod Making
pub mod Deeds
pub mod Weaving
