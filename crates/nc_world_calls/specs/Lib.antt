pub mod Answering
pub mod Noticing
pub mod Losing
pub mod Arriving
pub mod Edging
