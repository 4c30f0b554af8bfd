pub mod Giving
pub mod Owned
