pub use Rattle.rule_uses.specs as rule_uses
pub mod Kept
pub mod Spans
pub mod Words
pub mod Told
