pub mod Alone
pub mod Makes
pub mod Muted
pub mod Places
pub mod Ready
pub mod Shapes
pub mod Transfer
