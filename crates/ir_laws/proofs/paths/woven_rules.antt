pub mod Once
pub mod Unbroken
