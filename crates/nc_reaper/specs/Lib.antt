pub mod Reap
