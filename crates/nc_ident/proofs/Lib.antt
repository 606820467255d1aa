pub mod Tag
pub mod Tags
pub mod Pieces
pub mod WrittenSpells
pub mod Dates
