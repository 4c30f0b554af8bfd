pub mod Notings
pub mod Parts
pub mod Words
