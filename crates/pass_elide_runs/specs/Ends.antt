-- An instance is Finished only where its activation that hasn't left stands behind the end.
use Rattle.std.specs.Prelude.{◌≡◌, ℕ, true, false, List, ◌∷◌, slice_get, Some}
use Rattle.pass_elide_proof.specs.pass_proofs.ir_base.declared.outcome.Outcome.{Outcome}
use Rattle.pass_elide_proof.specs.pass_proofs.ir_model.Names.{function_at}
use Rattle.pass_elide_proof.specs.pass_proofs.ir_model.declared.module.Function.{Function}
use Rattle.pass_elide_proof.specs.pass_proofs.ir_model.declared.module.Module.{Module}
use Rattle.pass_elide_proof.specs.pass_proofs.ir_model.declared.operand.Intrinsic.{Intrinsic}
use Rattle.pass_elide_proof.specs.pass_proofs.ir_paths.declared.point.Point.{Point}
use Rattle.pass_elide_proof.specs.pass_proofs.pass_kept_proof.SuspendRules.{IsCallAt}
use Rattle.pass_elide_proof.specs.pass_proofs.rule_windows.Sets.{IsAfterEnd}
use Rattle.pass_elide_proof.specs.pass_proofs.run_laws.changed.Changed.{Each}
use Rattle.pass_elide_proof.specs.pass_proofs.run_source.State.{is_finished}
use Rattle.pass_elide_proof.specs.pass_proofs.run_source.declared.state.Activation.{Activation}
use Rattle.pass_elide_proof.specs.pass_proofs.run_source.declared.state.Instance.{Instance}
use Rattle.pass_elide_proof.specs.pass_proofs.run_source.declared.state.Mode.{Mode}
use Rattle.pass_elide_proof.specs.pass_proofs.run_source.declared.state.State.{State}

-- a path leads from the end to the place, and the activation doesn't execute its allocas again
pub record IsOverThere (f : Function) (block at : ℕ) (mode : Mode) : Type 0 where
  pub after : IsAfterEnd f (record { block = block; at = at })
  pub calm : (from label : ℕ) → mode ≡ Mode.Entering from label → ⊥

-- the instance of an activation that hasn't left is Finished only behind the end
pub record GoesOnTillEnd (m : Module) (xs : List Instance) (a : Activation) : Type 0 where
  pub over : (i : ℕ) (x : Instance) → a.instance ≡ Some i → slice_get xs i ≡ Some x → a.has_left ≡ false
      → is_finished x.status ≡ true → IsOverThere (function_at m a.func) a.block a.at a.mode

-- so it is with all activations while the run goes on
abbrev pub GoOnTillEnd : Module → State → Type 0
GoOnTillEnd m s = s.outcome ≡ Outcome.Running → Each (GoesOnTillEnd m s.instances) (s.top ∷ s.below)

-- K5: no save, suspend or end stands behind the end
pub record EndsOnce (f : Function) : Type 0 where
  pub saves : (p : Point) → IsAfterEnd f p → IsCallAt Intrinsic.CoroSave f p → ⊥
  pub suspends : (p : Point) → IsAfterEnd f p → IsCallAt Intrinsic.CoroSuspend f p → ⊥
  pub ends : (p : Point) → IsAfterEnd f p → IsCallAt Intrinsic.CoroEnd f p → ⊥
