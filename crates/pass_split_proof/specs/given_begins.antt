pub mod Beginning
pub mod Room
pub mod Runs
pub mod Worked
