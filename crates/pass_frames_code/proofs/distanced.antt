pub mod Steps
pub mod Through
