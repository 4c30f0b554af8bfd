pub mod BeginFollowed
pub mod Begun
pub mod Calm
pub mod SaveCode
pub mod SaveFollowed
