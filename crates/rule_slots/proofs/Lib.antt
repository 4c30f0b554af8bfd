pub use Rattle.flow_facts.proofs as flow_facts
pub mod Chains
pub mod Bounds
pub mod Led
pub mod OfSlots
pub mod Windows
pub mod EarlyEnds
pub mod Rules
