pub mod Generator
pub mod DrawnLine
pub mod Script
