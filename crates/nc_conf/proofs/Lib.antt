pub mod Digits
pub mod SoFar
pub mod First
pub mod Ranges
pub mod Known
pub mod Texts
pub mod One
mod Tidy
mod Grown
mod Early
