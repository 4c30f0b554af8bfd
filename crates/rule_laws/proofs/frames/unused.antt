pub mod Unneeded
