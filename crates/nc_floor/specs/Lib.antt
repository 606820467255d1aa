pub mod Hand
pub mod Floor
