pub use Rattle.flow_facts.specs as flow_facts
pub use Rattle.rule_windows.specs as rule_windows
pub mod Names
pub mod Slots
pub mod Closed
pub mod Steps
pub mod Marked
pub mod Early
