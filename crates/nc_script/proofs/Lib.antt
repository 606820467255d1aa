mod Words
mod Judging
mod Number
pub mod Sure
mod Parts
mod Lines
mod Fits
