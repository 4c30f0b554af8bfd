pub mod Agains
pub mod Front
pub mod Jumped
pub mod Places
pub mod Puts
pub mod Through
