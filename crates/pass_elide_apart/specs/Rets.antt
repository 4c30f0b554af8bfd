-- Where activations stand that were resumed: behind begin, and before the end. No ret stands there.
use Rattle.std.specs.Prelude.{◌≡◌, ◌∷◌, Option}
use Rattle.pass_elide_edges.specs.pass_elide_proof.pass_proofs.ir_model.Names.{function_at}
use Rattle.pass_elide_edges.specs.pass_elide_proof.pass_proofs.ir_model.declared.instr.Terminator.{Terminator}
use Rattle.pass_elide_edges.specs.pass_elide_proof.pass_proofs.ir_model.declared.module.Function.{Function}
use Rattle.pass_elide_edges.specs.pass_elide_proof.pass_proofs.ir_model.declared.module.Module.{Module}
use Rattle.pass_elide_edges.specs.pass_elide_proof.pass_proofs.ir_model.declared.operand.Arg.{Arg}
use Rattle.pass_elide_edges.specs.pass_elide_proof.pass_proofs.ir_model.declared.operand.Intrinsic.{Intrinsic}
use Rattle.pass_elide_edges.specs.pass_elide_proof.pass_proofs.ir_paths.declared.point.Point.{Point}
use Rattle.pass_elide_edges.specs.pass_elide_proof.pass_proofs.pass_kept_proof.Needed.{IsReached}
use Rattle.pass_elide_edges.specs.pass_elide_proof.pass_proofs.pass_kept_proof.SuspendRules.{IsCallAt}
use Rattle.pass_elide_edges.specs.pass_elide_proof.pass_proofs.rule_windows.Sets.{RunsOut}
use Rattle.pass_elide_edges.specs.pass_elide_proof.pass_proofs.run_laws.changed.Changed.{Each}
use Rattle.pass_elide_edges.specs.pass_elide_proof.pass_proofs.run_source.declared.state.Activation.{Activation}
use Rattle.pass_elide_edges.specs.pass_elide_proof.pass_proofs.run_source.declared.state.Mode.{Mode}
use Rattle.pass_elide_edges.specs.pass_elide_proof.pass_proofs.run_source.declared.state.State.{State}
use Rattle.pass_elide_edges.specs.pass_elide_proof.pass_proofs.run_step.Step.{AtTerm, fetch}

-- K5: a suspend to which a path leads stands behind begin and not behind the end, and no ret stands so
pub record EndsBeforeRets (f : Function) : Type 0 where
  pub suspends : (p : Point) → IsReached f p.block p.at → IsCallAt Intrinsic.CoroSuspend f p → RunsOut f p
  pub returns : (p : Point) (value : Option Arg) → fetch f p.block p.at ≡ AtTerm (Terminator.Ret value) → RunsOut f p
      → ⊥

-- a path without the end leads from begin to where an activation stands that was resumed
abbrev pub StandsUnended : Module → Activation → Type 0
StandsUnended m a =
    a.mode ≡ Mode.Resumed → RunsOut (function_at m a.func) (record { block = a.block; at = a.at })

abbrev pub StandUnended : Module → State → Type 0
StandUnended m s = Each (StandsUnended m) (s.top ∷ s.below)

-- ---- the end

-- K2: a function has one coro.end
abbrev pub HasOneEnd : Function → Type 0
HasOneEnd f = (p q : Point) → IsCallAt Intrinsic.CoroEnd f p → IsCallAt Intrinsic.CoroEnd f q → p ≡ q
