pub mod Acts
pub mod Actions
pub mod Beginning
pub mod Parts
pub mod Renewed
pub mod Runs
pub mod Storables
pub mod Values
