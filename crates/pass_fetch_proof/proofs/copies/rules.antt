pub mod Copied
pub mod KeptCopies
pub mod Names
pub mod Slots
