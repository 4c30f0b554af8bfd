-- Lemmas on small.
use Rattle.std.proofs.Common.{◌≡◌, ℕ, ◌≤◌, length, Some, None, true}
use Rattle.std.specs.Prelude.{slice_get}
use Rattle.pass_early.specs.Early.{early_module}
use Rattle.pass_early_proof.proofs.early.path_rules.Passes.{early_shape}
use Rattle.rule_laws.specs.rules.source_rules.Named.{AreTabled}
use Rattle.rule_laws.proofs.frames.suspend_counts.Counted.{few}
use Rattle.rule_laws.specs.pass_intrinsics.Shapes.{suspends_of}
use Rattle.rule_laws.specs.rule_all.Refused.{IsRefused}
use Rattle.ir_model.specs.declared.module.Function.{Function}
use Rattle.ir_model.specs.declared.module.Module.{Module}
use Rattle.rule_laws.specs.rule_names.declared.stage.Stage.{Stage}
use Rattle.rule_laws.specs.ir_laws.facts.sound_states.Named.{AreLocalsNamed, AreUsesNamed}

pub early_few : (m : Module) → IsRefused Stage.Source m None → AreTabled m → AreLocalsNamed m → AreUsesNamed m → (k : ℕ) (f : Function) → slice_get (early_module m).functions k ≡ Some f → f.coroutine ≡ true → length (suspends_of f) ≤ 65536
early_few m accepted tabled locals uses k f e coroutine = few k f coroutine (early_shape m accepted tabled locals uses k f e).suspends
