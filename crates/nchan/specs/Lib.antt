pub mod Standard
pub mod Run
