pub mod Fronts
pub mod ListSteps
pub mod OneKind
pub mod Tokens
pub mod FirstTokens
pub mod ListedTokens
