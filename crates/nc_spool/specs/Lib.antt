pub mod Ask
pub mod Board
pub mod Decide
pub mod Hear
pub mod Depart
pub mod Newest
pub mod Arrive
pub mod Calls
