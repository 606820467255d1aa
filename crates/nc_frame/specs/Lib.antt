pub mod Frame
pub mod Laws
pub mod Meta
pub mod Opcode
pub mod Reading
