pub mod Begun
pub mod Count
pub mod Items
pub mod Reads
pub mod Told
