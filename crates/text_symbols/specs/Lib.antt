pub mod Numbers
pub mod Names
pub mod Words
pub mod Sym
pub mod Listing
