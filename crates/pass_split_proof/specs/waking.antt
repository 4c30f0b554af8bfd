pub mod Able
