pub use Rattle.rule_slots.proofs as rule_slots
pub mod Listed
pub mod Told
