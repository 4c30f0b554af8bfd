pub mod Numbered
pub mod Sources
pub mod Steps
pub mod Words
