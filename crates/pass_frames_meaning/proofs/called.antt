pub mod Voids
pub mod Comes
pub mod Called
pub mod CalledHooks
