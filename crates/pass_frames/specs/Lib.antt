pub mod Tables
pub mod Framed
