pub mod Written
pub mod Readers
pub mod Known
pub mod Laws
