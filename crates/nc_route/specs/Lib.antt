pub mod Place
pub mod Query
pub mod Begin
pub mod Rules
pub mod Steps
pub mod Laws
