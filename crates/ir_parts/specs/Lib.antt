pub use Rattle.ir_model.specs as ir_model
pub mod Parts
pub mod Contents
pub mod Locals
