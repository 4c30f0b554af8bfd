pub use Rattle.ir_base.specs as ir_base
pub mod Ty
pub mod TypeView
pub mod TypeFalls
pub mod Names
pub mod Layout
pub mod Table
pub mod Calls
