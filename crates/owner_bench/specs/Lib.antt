pub mod Publishes
