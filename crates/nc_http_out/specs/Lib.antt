pub mod Head
pub mod Answer
