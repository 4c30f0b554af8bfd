-- Lemmas on rules, that speak of no pass.
use Rattle.std.proofs.Common.{◌≡◌, ℕ, true, refl}
use Rattle.std.specs.Prelude.{Option}
use Rattle.rule_shape.specs.Switches.{is_switch_on}
use Rattle.ir_laws.specs.facts.branches.MovedState.{IsSwitch}
use Rattle.ir_parts.specs.Contents.{ending_labels}
use Rattle.ir_laws.specs.ir_model.declared.instr.Terminator.{Terminator}
use Rattle.ir_laws.specs.ir_paths.Paths.{targets}

pub labels_spelt : (t : Terminator) → ending_labels t ≡ targets t
labels_spelt (Terminator.Jump label) = refl
labels_spelt (Terminator.Branch x a b) = refl
labels_spelt (Terminator.Switch arg default cases) = refl
labels_spelt (Terminator.Ret v) = refl
labels_spelt Terminator.Unreachable = refl

-- ---- switches (K3)

pub is_switch : (v : ℕ) (end : Option ℕ) (t : Terminator) → is_switch_on v end t ≡ true → IsSwitch t
is_switch v end (Terminator.Switch arg default cases) e = tt
is_switch v end (Terminator.Jump label) e = absurd (cc)
is_switch v end (Terminator.Branch x a b) e = absurd (cc)
is_switch v end (Terminator.Ret value) e = absurd (cc)
is_switch v end Terminator.Unreachable e = absurd (cc)
