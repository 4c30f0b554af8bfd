pub mod Apart
pub mod Begin
pub mod Unneeded
pub mod Written
