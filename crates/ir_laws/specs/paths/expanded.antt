pub mod Avoided
pub mod Tokens
