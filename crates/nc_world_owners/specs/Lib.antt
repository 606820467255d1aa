pub mod ByOwner
pub mod Grants
pub mod LocalLaws
pub mod WholeLaws
pub mod Pairs
