pub use Rattle.pass_exits.specs as pass_exits
pub mod Pieces
pub mod Given
pub mod Reached
pub mod Parts
pub mod Called
