pub mod Beginning
pub mod Saving
