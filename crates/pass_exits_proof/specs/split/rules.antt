pub mod Parted
pub mod Pieced
pub mod Reached
pub mod Splittable
