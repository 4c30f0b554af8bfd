pub mod Carried
pub mod Local
pub mod Names
pub mod Noted
pub mod Shape
pub mod Uses
pub mod Whole
