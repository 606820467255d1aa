mod First
pub mod Distinct
