-- Memories in which some blocks count as dead: those that are no longer used.
pub use Rattle.run_laws.specs.transfer.Muted.{IsShown, IsShownOperand, ended_if, muted, muted_action, muted_work}
