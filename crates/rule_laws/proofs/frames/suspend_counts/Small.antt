-- Lemmas on small, that speak of no pass.
use Rattle.std.proofs.Common.{◌≡◌, ℕ, ◌≤◌, length, Some, None, true}
use Rattle.std.specs.Prelude.{slice_get}
use Rattle.rule_laws.proofs.rules.path_rules.Passes.{accepted_shape}
use Rattle.rule_laws.proofs.frames.suspend_counts.Counted.{few}
use Rattle.pass_intrinsics.specs.Shapes.{suspends_of}
use Rattle.rule_all.specs.Refused.{IsRefused}
use Rattle.ir_laws.specs.ir_model.declared.module.Function.{Function}
use Rattle.ir_laws.specs.ir_model.declared.module.Module.{Module}
use Rattle.rule_names.specs.declared.stage.Stage.{Stage}

pub accepted_few : (m : Module) → IsRefused Stage.Source m None → (k : ℕ) (f : Function) → slice_get m.functions k ≡ Some f → f.coroutine ≡ true → length (suspends_of f) ≤ 65536
accepted_few m accepted k f e coroutine = few k f coroutine (accepted_shape m accepted k f e).suspends
