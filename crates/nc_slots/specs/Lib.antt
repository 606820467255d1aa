pub mod Slot
pub mod Slots
pub mod Row
pub mod Plain
