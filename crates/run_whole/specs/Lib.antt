pub mod Framed
pub mod Plain
pub mod Source
