pub mod Lines
pub mod Listing
pub mod Spaced
pub mod Words
pub mod Brackets
