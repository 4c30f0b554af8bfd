pub use Rattle.ir_parts.proofs as ir_parts
pub mod Firsts
pub mod Pushed
pub mod TokenRows
pub mod Between
