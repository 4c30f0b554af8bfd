pub mod HaveFacts
pub mod Slots
pub mod Chains
pub mod Tokens
