pub mod Frames
pub mod Metas
pub mod Texts
