pub mod Kinds
pub mod Story
pub mod Scribe
pub mod Weaving
