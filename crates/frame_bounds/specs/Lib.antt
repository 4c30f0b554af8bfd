pub use Rattle.frame_contents.specs as frame_contents
pub mod Bounds
