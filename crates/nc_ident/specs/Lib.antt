pub mod Date
pub mod Spelling
pub mod Reader
pub mod Refusal
pub mod Laws
