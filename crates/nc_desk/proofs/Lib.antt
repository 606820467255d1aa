pub mod Forgetting
pub mod Idling
pub mod Beginning
