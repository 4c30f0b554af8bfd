pub mod Instructions
pub mod Returns
pub mod Splittable
