pub mod Alike
pub mod Laws
pub mod Mapped
pub mod Modules
pub mod Named
pub mod Renamed
pub mod Saved
