pub mod Deallocating
