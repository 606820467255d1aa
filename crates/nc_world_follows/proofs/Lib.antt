pub mod Fitting
pub mod Busy
pub mod Steps
pub mod Cutting
pub mod Deleting
pub mod EndingCut
pub mod Following
