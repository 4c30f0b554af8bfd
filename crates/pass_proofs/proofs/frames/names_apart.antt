pub mod Framed
pub mod Lowered
