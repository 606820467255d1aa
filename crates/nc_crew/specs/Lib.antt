pub mod Crewman
