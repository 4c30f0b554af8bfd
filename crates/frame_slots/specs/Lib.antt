pub use Rattle.rule_window_values.specs as rule_window_values
pub use Rattle.rule_slots.specs as rule_slots
pub use Rattle.rule_slots.specs.flow_facts as flow_facts
pub use Rattle.rule_slots.specs.rule_windows as rule_windows
pub use Rattle.run_step.specs as run_step
pub mod Uses
pub mod Spots
pub mod Words
pub mod Markers
pub mod Told
