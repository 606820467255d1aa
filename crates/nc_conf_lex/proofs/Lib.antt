mod Plain
pub mod Bytes
pub mod Cut
pub mod Fillers
pub mod Quoted
pub mod Found
pub mod Right
pub mod Readings
