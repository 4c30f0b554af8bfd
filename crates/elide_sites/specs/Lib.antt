pub use Rattle.elide_shape.specs as elide_shape
pub mod Destroyed
pub mod Chosen
pub mod Elidable
pub mod Handles
pub mod Sites
pub mod Rows
