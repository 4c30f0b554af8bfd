pub mod Kinds
pub mod Parted
pub mod Replaced
pub mod Splittable
