pub mod Kept
pub mod Said
pub mod Texts
pub mod Written
