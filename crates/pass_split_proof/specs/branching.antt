pub mod Terminators
