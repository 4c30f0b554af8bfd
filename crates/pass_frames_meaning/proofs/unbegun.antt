pub mod Unbegun
pub mod Renewed
