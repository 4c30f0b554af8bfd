pub mod Having
pub mod SameFacts
pub mod Steps
