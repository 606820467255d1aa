pub mod Notices
pub mod Places
