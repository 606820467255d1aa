pub mod Making
pub mod Answering
pub mod Owning
pub mod Bounding
