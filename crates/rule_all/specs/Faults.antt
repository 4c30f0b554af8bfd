-- What the rules on paths say of the functions of a module.
use Rattle.std.specs.Prelude.{ℕ, List, length, slice_get, Some, None, unwrap_or, ◌≡◌}
use Rattle.rule_uses.specs.Undefined.{IsFirstUndefined}
use Rattle.rule_uses.specs.Uses.{uses_of}
use Rattle.rule_all.specs.declared.faults.PathFaults.{PathFaults}
use Rattle.ir_model.specs.declared.module.Function.{Function}
use Rattle.rule_slots.specs.Early.{IsFirstEarly}
use Rattle.rule_slots.specs.Marked.{IsFirstMarked}
use Rattle.rule_windows.specs.Outside.{IsFirstOutside}
use Rattle.rule_windows.specs.Windows.{IsFirstWindow}
use Rattle.rule_window_values.specs.Kept.{IsFirstKept}

-- for each rule on paths its first fault in the function: F2, K5, K6, K7, K8, K9
pub record AreFaultsOf (k : ℕ) (f : Function) (x : PathFaults) : Type 0 where
  pub undefined_use : IsFirstUndefined f (uses_of k f) x.undefined_use
  pub outside : IsFirstOutside k f x.outside
  pub window : IsFirstWindow k f x.window
  pub kept_value : IsFirstKept k f x.kept_value
  pub marked_slot : IsFirstMarked k f x.marked_slot
  pub early_address : IsFirstEarly k f x.early_address

-- the same for all functions, in their order
pub record HaveFaults (functions : List Function) (faults : List PathFaults) : Type 0 where
  pub as_many : length faults ≡ length functions
  pub each : (k : ℕ) (f : Function) (x : PathFaults) → slice_get functions k ≡ Some f → slice_get faults k ≡ Some x → AreFaultsOf k f x

abbrev pub no_faults : PathFaults
no_faults = record { undefined_use = None; outside = None; window = None; kept_value = None; marked_slot = None; early_address = None }

abbrev pub faults_at : List PathFaults → ℕ → PathFaults
faults_at faults k = unwrap_or (slice_get faults k) no_faults
