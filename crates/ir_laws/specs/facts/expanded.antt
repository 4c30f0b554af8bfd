pub mod Expansion
pub mod Spots
pub mod Tokens
