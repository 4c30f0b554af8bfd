pub mod Alike
pub mod Branches
pub mod Left
