pub mod Buffer
pub mod Laws
pub mod Marks
pub mod Trees
pub mod Index
