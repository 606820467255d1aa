pub mod FromTurn
pub mod GoesOn
