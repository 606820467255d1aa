pub mod AtQuiet
