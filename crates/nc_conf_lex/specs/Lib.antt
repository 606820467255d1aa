pub mod Byte
pub mod Spelling
pub mod Reading
pub mod Scan
pub mod Kept
