pub mod Elided
