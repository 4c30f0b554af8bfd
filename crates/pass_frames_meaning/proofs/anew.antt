pub mod Anew
pub mod Renewed
