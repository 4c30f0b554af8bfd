pub mod Values
pub mod WordFound
pub mod Unescaped
pub mod Said
