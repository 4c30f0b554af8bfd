pub use Rattle.rule_uses.specs as rule_uses
pub mod Values
pub mod EdgeUses
pub mod Paths
pub mod Crossing
pub mod Words
pub mod OneWalk
