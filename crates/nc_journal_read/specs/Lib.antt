pub mod Fit
pub mod ValueReader
pub mod PlaceReader
pub mod Shape
pub mod WordTable
pub mod AlertTable
pub mod EventTable
pub mod BadLine
