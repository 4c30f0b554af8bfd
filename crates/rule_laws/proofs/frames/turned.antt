pub mod Edges
pub mod Known
pub mod Local
pub mod Once
pub mod Turned
pub mod Uses
