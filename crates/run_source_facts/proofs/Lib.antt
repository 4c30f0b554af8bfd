pub mod SameFacts
pub mod Steps
