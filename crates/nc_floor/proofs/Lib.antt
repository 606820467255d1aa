pub mod Sharing
pub mod Acting
pub mod OnFloor
pub mod Carrying
pub mod Taking
pub mod Beginning
