pub mod Exited
