pub mod Box
pub mod Outboxes
