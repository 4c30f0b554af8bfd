pub mod Fields
pub mod Layouts
pub mod Module
pub mod Names
