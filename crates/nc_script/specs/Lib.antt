pub mod Word
pub mod Judge
pub mod Part
pub mod Line
pub mod Script
