pub use Rattle.frame_slots.specs as frame_slots
pub use Rattle.frame_slots.specs.rule_slots as rule_slots
pub use Rattle.frame_slots.specs.rule_window_values as rule_window_values
pub use Rattle.flow_reach.specs as flow_reach
pub use Rattle.flow_reach.specs.flow_blocks as flow_blocks
pub use Rattle.frame_slots.specs.rule_windows as rule_windows
pub mod Alive
pub mod Classes
pub mod Rows
pub mod Ways
pub mod Words
pub mod Answer
