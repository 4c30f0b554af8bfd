pub mod Splittable
