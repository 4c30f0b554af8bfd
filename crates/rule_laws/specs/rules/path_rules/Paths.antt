-- Functions that break no rule on paths.
use Rattle.std.specs.Prelude.{ℕ, None}
use Rattle.rule_uses.specs.Undefined.{IsFirstUndefined}
use Rattle.rule_uses.specs.Uses.{uses_of}
use Rattle.ir_laws.specs.ir_model.declared.module.Function.{Function}
use Rattle.rule_all.specs.rule_slots.Early.{IsFirstEarly}
use Rattle.rule_all.specs.rule_slots.Marked.{IsFirstMarked}
use Rattle.rule_windows.specs.Outside.{IsFirstOutside}
use Rattle.rule_windows.specs.Windows.{IsFirstWindow}
use Rattle.rule_all.specs.rule_window_values.Kept.{IsFirstKept}

-- F2, K5, K6, K7, K8 and K9 have no fault in the function
pub record KeepsPaths (func : ℕ) (f : Function) : Type 0 where
  pub undefined_use : IsFirstUndefined f (uses_of func f) None
  pub outside : IsFirstOutside func f None
  pub window : IsFirstWindow func f None
  pub kept_value : IsFirstKept func f None
  pub marked_slot : IsFirstMarked func f None
  pub early_address : IsFirstEarly func f None
