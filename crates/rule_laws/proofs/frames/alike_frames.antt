pub mod Held
pub mod Layouts
