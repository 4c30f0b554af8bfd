pub mod Called
pub mod Returned
