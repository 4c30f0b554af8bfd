-- What a framed module keeps of ends and rets, and where activations stand that were resumed.
use Rattle.std.specs.Prelude.{◌≡◌, ◌∷◌, ℕ, Option}
use Rattle.elide_sites.specs.Destroyed.{FreesWhenDestroyed}
use Rattle.pass_elide_meaning.specs.pass_elide_edges.pass_elide_proof.Elision.{Elision, function_in}
use Rattle.pass_elide_meaning.specs.pass_elide_edges.pass_elide_proof.Placing.{HasShape}
use Rattle.pass_elide_meaning.specs.pass_elide_edges.pass_elide_proof.Releasing.{FreesAtOnce}
use Rattle.pass_elide_meaning.specs.pass_elide_edges.pass_elide_proof.pass_proofs.ir_model.Names.{function_at}
use Rattle.pass_elide_meaning.specs.pass_elide_edges.pass_elide_proof.pass_proofs.ir_model.declared.instr.Terminator.{Terminator}
use Rattle.pass_elide_meaning.specs.pass_elide_edges.pass_elide_proof.pass_proofs.ir_model.declared.module.Function.{Function}
use Rattle.pass_elide_meaning.specs.pass_elide_edges.pass_elide_proof.pass_proofs.ir_model.declared.module.Module.{Module}
use Rattle.pass_elide_meaning.specs.pass_elide_edges.pass_elide_proof.pass_proofs.ir_model.declared.operand.Arg.{Arg}
use Rattle.pass_elide_meaning.specs.pass_elide_edges.pass_elide_proof.pass_proofs.ir_model.declared.operand.Intrinsic.{Intrinsic}
use Rattle.pass_elide_meaning.specs.pass_elide_edges.pass_elide_proof.pass_proofs.ir_paths.Paths.{entry_point}
use Rattle.pass_elide_meaning.specs.pass_elide_edges.pass_elide_proof.pass_proofs.ir_paths.declared.point.Point.{Point}
use Rattle.pass_elide_meaning.specs.pass_elide_edges.pass_elide_proof.pass_proofs.pass_kept_proof.Needed.{IsReached}
use Rattle.pass_elide_meaning.specs.pass_elide_edges.pass_elide_proof.pass_proofs.pass_kept_proof.SuspendRules.{IsCallAt}
use Rattle.pass_elide_meaning.specs.pass_elide_edges.pass_elide_proof.pass_proofs.rule_windows.Sets.{RunsOut}
use Rattle.pass_elide_meaning.specs.pass_elide_edges.pass_elide_proof.pass_proofs.run_laws.changed.Changed.{Each}
use Rattle.pass_elide_meaning.specs.pass_elide_edges.pass_elide_proof.pass_proofs.run_source.declared.state.Activation.{Activation}
use Rattle.pass_elide_meaning.specs.pass_elide_edges.pass_elide_proof.pass_proofs.run_source.declared.state.Mode.{Mode}
use Rattle.pass_elide_meaning.specs.pass_elide_edges.pass_elide_proof.pass_proofs.run_source.declared.state.State.{State}
use Rattle.pass_elide_meaning.specs.pass_elide_edges.pass_elide_proof.pass_proofs.run_step.Step.{AtTerm, fetch}

-- ---- functions

-- K2: a function has one coro.end
abbrev pub HasOneEnd : Function → Type 0
HasOneEnd f = (p q : Point) → IsCallAt Intrinsic.CoroEnd f p → IsCallAt Intrinsic.CoroEnd f q → p ≡ q

-- K5: a suspend to which a path leads stands behind begin and not behind the end, and no ret stands so
pub record EndsBeforeRets (f : Function) : Type 0 where
  pub suspends : (p : Point) → IsReached f p.block p.at → IsCallAt Intrinsic.CoroSuspend f p → RunsOut f p
  pub returns : (p : Point) (value : Option Arg) → fetch f p.block p.at ≡ AtTerm (Terminator.Ret value) → RunsOut f p
      → ⊥

-- ---- the module

pub record KeepsEndings (e : Elision) : Type 0 where
  pub one : (func : ℕ) → HasOneEnd (function_in e func)
  pub returns : (func : ℕ) → EndsBeforeRets (function_in e func)
  -- a coroutine that may be given its frame hands what coro.free gives to a deallocator at once, when it is destroyed
  pub at_once : (func : ℕ) → HasShape e func → FreesAtOnce (function_in e func) (e.shape func)
  pub freed : (func : ℕ) → HasShape e func → FreesWhenDestroyed (function_in e func)

-- ---- activations

-- A path leads from begin, without the end between, to where an activation stands that was resumed, or to the label
-- that it is about to enter.
pub record IsRunOut (f : Function) (mode : Mode) (p : Point) : Type 0 where
  pub resumed : mode ≡ Mode.Resumed → RunsOut f p
  pub entering : (from label : ℕ) → mode ≡ Mode.Entering from label → RunsOut f (entry_point f label)

abbrev pub HasRunOut : Module → Activation → Type 0
HasRunOut m a = IsRunOut (function_at m a.func) a.mode (record { block = a.block; at = a.at })

-- so it is with all activations
abbrev pub HaveRunOut : Module → State → Type 0
HaveRunOut m s = Each (HasRunOut m) (s.top ∷ s.below)
