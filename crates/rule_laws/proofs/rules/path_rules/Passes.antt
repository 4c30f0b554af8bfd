-- Lemmas on passes, that speak of no pass.
use Rattle.std.proofs.Common.{◌≡◌, ℕ, subst}
use Rattle.std.specs.Prelude.{Some, None, slice_get}
use Rattle.rule_uses.specs.Undefined.{IsFirstUndefined}
use Rattle.rule_uses.specs.Uses.{uses_of}
use Rattle.rule_laws.proofs.rules.path_rules.Order.{breaks_none}
use Rattle.rule_laws.specs.rules.path_rules.Paths.{KeepsPaths}
use Rattle.rule_laws.specs.rules.path_rules.Shape.{KeepsShape}
use Rattle.rule_all.specs.Refused.{IsRefused}
use Rattle.ir_laws.specs.ir_model.declared.module.Function.{Function}
use Rattle.ir_laws.specs.ir_model.declared.module.Module.{Module}
use Rattle.rule_names.specs.declared.stage.Stage.{Stage}
use Rattle.rule_all.specs.rule_slots.Early.{IsFirstEarly}
use Rattle.rule_all.specs.rule_slots.Marked.{IsFirstMarked}
use Rattle.rule_windows.specs.Outside.{IsFirstOutside}
use Rattle.rule_windows.specs.Windows.{IsFirstWindow}
use Rattle.rule_all.specs.rule_window_values.Kept.{IsFirstKept}

pub accepted_shape : (m : Module) → IsRefused Stage.Source m None → (k : ℕ) (f : Function) → slice_get m.functions k ≡ Some f → KeepsShape k f
accepted_shape m accepted k f there = (breaks_none m k f accepted there).shape

pub accepted_paths : (m : Module) → IsRefused Stage.Source m None → (k : ℕ) (f : Function) → slice_get m.functions k ≡ Some f → KeepsPaths k f
accepted_paths m accepted k f there =
    let x = breaks_none m k f accepted there in
    record {
      undefined_use = subst (IsFirstUndefined f (uses_of k f)) x.none.undefined_use x.are.undefined_use;
      outside = subst (IsFirstOutside k f) x.none.outside x.are.outside;
      window = subst (IsFirstWindow k f) x.none.window x.are.window;
      kept_value = subst (IsFirstKept k f) x.none.kept_value x.are.kept_value;
      marked_slot = subst (IsFirstMarked k f) x.none.marked_slot x.are.marked_slot;
      early_address = subst (IsFirstEarly k f) x.none.early_address x.are.early_address;
    }
