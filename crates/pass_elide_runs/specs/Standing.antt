-- Where activations stand and instances sleep: paths of their functions lead there.
use Rattle.std.specs.Prelude.{◌≡◌, ℕ, [], ◌∷◌, slice_get, Some}
use Rattle.pass_elide_proof.specs.pass_proofs.flow_blocks.Reach.{IsReached as IsReachedBlock}
use Rattle.pass_elide_proof.specs.pass_proofs.ir_model.Names.{function_at, position_of}
use Rattle.pass_elide_proof.specs.pass_proofs.ir_model.declared.module.Module.{Module}
use Rattle.pass_elide_proof.specs.pass_proofs.ir_paths.declared.point.Point.{Point}
use Rattle.pass_elide_proof.specs.pass_proofs.run_laws.changed.Changed.{Each}
use Rattle.pass_elide_proof.specs.pass_proofs.run_source.declared.state.Activation.{Activation}
use Rattle.pass_elide_proof.specs.pass_proofs.run_source.declared.state.Instance.{Instance}
use Rattle.pass_elide_proof.specs.pass_proofs.run_source.declared.state.Mode.{Mode}
use Rattle.pass_elide_proof.specs.pass_proofs.run_source.declared.state.State.{State}
use Rattle.pass_elide_proof.specs.pass_proofs.run_source.declared.state.Status.{Status}
use Rattle.pass_elide_proof.specs.pass_proofs.run_step.Values.{Env}

-- A path leads from the entry block to the block in which an activation stands. So one does to that of a label that it
-- is about to enter.
pub record StandsWhereLed (m : Module) (a : Activation) : Type 0 where
  pub block : IsReachedBlock (function_at m a.func) (0 ∷ []) [] a.block
  pub label : (from label : ℕ) → a.mode ≡ Mode.Entering from label
      → IsReachedBlock (function_at m a.func) (0 ∷ []) [] (position_of (function_at m a.func) label)

-- so it is with all activations, and with the suspends of instances
pub record StandWhereLed (m : Module) (s : State) : Type 0 where
  pub acts : Each (StandsWhereLed m) (s.top ∷ s.below)
  pub asleep : (i : ℕ) (x : Instance) (p : Point) (values : Env) → slice_get s.instances i ≡ Some x
      → x.status ≡ Status.Suspended p values → IsReachedBlock (function_at m x.coroutine) (0 ∷ []) [] p.block
