-- Where activations go on behind suspends: at labels to which the switches behind these lead.
use Rattle.std.specs.Prelude.{◌≡◌, ◌⊎◌, ◌+◌, ℕ, List, ◌∷◌, length, slice_get, Some}
use Rattle.pass_elide_edges.specs.Keeping.{HasEdge}
use Rattle.pass_elide_edges.specs.pass_elide_proof.Places.{instrs_of}
use Rattle.pass_elide_runs.specs.Modes.{KnowModes}
use Rattle.pass_elide_edges.specs.pass_elide_proof.pass_proofs.ir_model.Names.{function_at, position_of}
use Rattle.pass_elide_edges.specs.pass_elide_proof.pass_proofs.ir_model.declared.instr.Case.{Case}
use Rattle.pass_elide_edges.specs.pass_elide_proof.pass_proofs.ir_model.declared.instr.Terminator.{Terminator}
use Rattle.pass_elide_edges.specs.pass_elide_proof.pass_proofs.ir_model.declared.module.Function.{Function}
use Rattle.pass_elide_edges.specs.pass_elide_proof.pass_proofs.ir_model.declared.module.Module.{Module}
use Rattle.pass_elide_edges.specs.pass_elide_proof.pass_proofs.ir_model.declared.operand.Arg.{Arg}
use Rattle.pass_elide_edges.specs.pass_elide_proof.pass_proofs.ir_model.declared.operand.Intrinsic.{Intrinsic}
use Rattle.pass_elide_edges.specs.pass_elide_proof.pass_proofs.ir_paths.Windows.{destroy_label, resume_label}
use Rattle.pass_elide_edges.specs.pass_elide_proof.pass_proofs.ir_paths.declared.point.Point.{Point}
use Rattle.pass_elide_edges.specs.pass_elide_proof.pass_proofs.pass_kept_proof.Needed.{IsReached}
use Rattle.pass_elide_edges.specs.pass_elide_proof.pass_proofs.pass_kept_proof.SuspendRules.{IsCallAt}
use Rattle.pass_elide_edges.specs.pass_elide_proof.pass_proofs.run_laws.changed.Changed.{Each}
use Rattle.pass_elide_edges.specs.pass_elide_proof.pass_proofs.run_source.declared.state.Activation.{Activation}
use Rattle.pass_elide_edges.specs.pass_elide_proof.pass_proofs.run_source.declared.state.Instance.{Instance}
use Rattle.pass_elide_edges.specs.pass_elide_proof.pass_proofs.run_source.declared.state.Mode.{Mode}
use Rattle.pass_elide_edges.specs.pass_elide_proof.pass_proofs.run_source.declared.state.State.{State}
use Rattle.pass_elide_edges.specs.pass_elide_proof.pass_proofs.run_source.declared.state.Status.{Status}
use Rattle.pass_elide_edges.specs.pass_elide_proof.pass_proofs.run_step.Values.{Env}

-- A suspend to which a path leads is the last of the block. The switch behind it leads to the label.
pub record IsBehindSuspend (f : Function) (from label : ℕ) : Type 0 where
  pub at : ℕ
  pub reached : IsReached f from at
  pub suspends : IsCallAt Intrinsic.CoroSuspend f (record { block = from; at = at })
  pub last : at + 1 ≡ length (instrs_of f from)
  pub edge : HasEdge f from label
  pub arg : Arg
  pub default : ℕ
  pub cases : List Case
  pub is : edge.term ≡ Terminator.Switch arg default cases

-- so the labels of 0 and 1 are behind a suspend
pub record LeadsBehind (f : Function) (p : Point) : Type 0 where
  pub resume : IsBehindSuspend f p.block (resume_label f p)
  pub destroy : IsBehindSuspend f p.block (destroy_label f p)

-- ---- states

-- an activation that executes its allocas again goes on from a suspend's block at such a label
abbrev pub EntersBehind : Module → Activation → Type 0
EntersBehind m a =
    (from label : ℕ) → a.mode ≡ Mode.Entering from label → IsBehindSuspend (function_at m a.func) from label

abbrev pub EnterBehind : Module → State → Type 0
EnterBehind m s = Each (EntersBehind m) (s.top ∷ s.below)

-- so does each instance that is suspended, when it is woken
abbrev pub SleepBehind : Module → State → Type 0
SleepBehind m s =
    (i : ℕ) (x : Instance) (p : Point) (values : Env) → slice_get s.instances i ≡ Some x
    → x.status ≡ Status.Suspended p values → LeadsBehind (function_at m x.coroutine) p

-- what steps that wake an instance, or execute its allocas again, ask of a state
pub record KnowsBehind (m : Module) (s : State) : Type 0 where
  pub modes : KnowModes m s
  pub enters : EnterBehind m s
  pub sleeps : SleepBehind m s

-- ---- an activation that goes on

-- It executes its allocas again in the entry block, or has come to the label.
pub record GoesBehind (m : Module) (a : Activation) : Type 0 where
  pub from : ℕ
  pub label : ℕ
  pub behind : IsBehindSuspend (function_at m a.func) from label
  pub place : ((a.mode ≡ Mode.Entering from label) × (a.block ≡ 0))
      ⊎ ((a.mode ≡ Mode.Resumed) × (a.block ≡ position_of (function_at m a.func) label) × (a.at ≡ 0))
