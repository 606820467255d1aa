pub mod Answer
pub mod Fields
pub mod Opening
