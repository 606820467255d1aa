pub mod Behind
pub mod Edges
pub mod Newest
pub mod Starts
pub mod Drawn
pub mod Known
pub mod Asked
