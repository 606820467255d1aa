pub mod Cuts
pub mod Ids
pub mod Buffers
pub mod Rising
pub mod TextLaws
pub mod Standings
pub mod Leavings
pub mod Holdings
