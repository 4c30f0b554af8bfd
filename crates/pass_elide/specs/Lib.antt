pub mod Places
pub mod Frames
pub mod Tables
pub mod Elided
pub mod Laws
