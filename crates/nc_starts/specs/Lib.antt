pub mod Edges
pub mod Newest
pub mod Starts
pub mod EdgesTold
pub mod Asked
