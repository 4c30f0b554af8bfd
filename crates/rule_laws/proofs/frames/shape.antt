pub mod Points
pub mod Saves
pub mod Tokens
