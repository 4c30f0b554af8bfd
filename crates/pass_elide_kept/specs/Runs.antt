-- What is asked of states of both runs, so that what is related stays related.
use Rattle.std.specs.Prelude.{◌≡◌, ◌∷◌, ℕ, Bool, true, false, List, slice_get, Some, None, Option}
use Rattle.pass_elide_proof.specs.Callers.{WakesByEdge}
use Rattle.pass_elide_proof.specs.Destroying.{IsBehindDestroy}
use Rattle.pass_elide_proof.specs.Elision.{Elision, framed, function_in}
use Rattle.pass_elide_proof.specs.Placing.{HasShape}
use Rattle.pass_elide_proof.specs.PlacingStates.{HaveShapes, IsKnownState}
use Rattle.pass_elide_proof.specs.Returning.{HaveOwnSlots}
use Rattle.pass_elide_proof.specs.pass_proofs.ir_model.Names.{position_of}
use Rattle.pass_elide_proof.specs.pass_proofs.ir_model.Ty.{Ty}
use Rattle.pass_elide_proof.specs.pass_proofs.ir_model.declared.instr.Instr.{Instr}
use Rattle.pass_elide_proof.specs.pass_proofs.ir_model.declared.instr.Terminator.{Terminator}
use Rattle.pass_elide_proof.specs.pass_proofs.ir_model.declared.operand.Arg.{Arg}
use Rattle.pass_elide_proof.specs.pass_proofs.ir_model.declared.operand.Callee.{Callee}
use Rattle.pass_elide_proof.specs.pass_proofs.ir_model.declared.operand.Intrinsic.{Intrinsic}
use Rattle.pass_elide_proof.specs.pass_proofs.ir_paths.Windows.{destroy_label, end_block, resume_label}
use Rattle.pass_elide_proof.specs.pass_proofs.ir_paths.declared.point.Point.{Point}
use Rattle.pass_elide_proof.specs.pass_proofs.run_source.State.{function_of}
use Rattle.pass_elide_proof.specs.pass_proofs.run_source.declared.state.Activation.{Activation}
use Rattle.pass_elide_proof.specs.pass_proofs.run_source.declared.state.Instance.{Instance}
use Rattle.pass_elide_proof.specs.pass_proofs.run_source.declared.state.Mode.{Mode}
use Rattle.pass_elide_proof.specs.pass_proofs.run_source.declared.state.State.{State}
use Rattle.pass_elide_proof.specs.pass_proofs.run_source.declared.state.Status.{Status}
use Rattle.pass_elide_proof.specs.pass_proofs.run_step.Step.{AtInstr, AtTerm, fetch}
use Rattle.pass_elide_proof.specs.pass_proofs.run_step.Values.{Env}

-- ---- the framed run

-- an alloca stands at the place of the topmost activation
pub record IsAtAnAlloca (e : Elision) (s : State) : Type 0 where
  pub name : ℕ
  pub ty : Ty
  pub align : ℕ
  pub there : fetch (function_of (framed e).given s) s.top.block s.top.at ≡ AtInstr (Instr.Alloca name ty align)

-- a resumed activation that a coro.destroy has called is at coro.end, and hasn't left
pub record EndsDestroyed (e : Elision) (s : State) : Type 0 where
  pub caller : Activation
  pub callers : List Activation
  pub below : s.below ≡ caller ∷ callers
  pub behind : IsBehindDestroy (function_in e caller.func) caller
  pub resumed : s.top.mode ≡ Mode.Resumed
  pub stays : s.top.has_left ≡ false
  pub result : Option ℕ
  pub must_tail : Bool
  pub ty : Option Ty
  pub args : List Arg
  pub there : fetch (function_of (framed e).given s) s.top.block s.top.at
      ≡ AtInstr (Instr.Call result must_tail ty (Callee.Intrinsic Intrinsic.CoroEnd) args)

-- each coro.end of a function stands in its end block
abbrev pub EndsInBlock : Elision → ℕ → Type 0
EndsInBlock e func =
    (block at : ℕ) (result : Option ℕ) (must_tail : Bool) (ty : Option Ty) (args : List Arg)
    → fetch (function_in e func) block at
    ≡ AtInstr (Instr.Call result must_tail ty (Callee.Intrinsic Intrinsic.CoroEnd) args)
    → block ≡ end_block (function_in e func)

pub record IsKeptFramed (e : Elision) (s : State) : Type 0 where
  -- instances are of coroutines, and activations in no mode that isn't theirs
  pub known : IsKnownState e.code s
  -- an activation that executes its allocas again stands at one
  pub allocas : (from label : ℕ) → s.top.mode ≡ Mode.Entering from label → IsAtAnAlloca e s
  -- the instance that a coro.destroy goes on with was freed when its activation comes to coro.end
  pub destroyed : HasShape e s.top.func → EndsDestroyed e s → (number : ℕ) (x : Instance)
      → s.top.instance ≡ Some number → slice_get s.instances number ≡ Some x → x.freed ≡ true
  -- a resumed activation comes to no ret, since it returns at coro.end
  pub rets : (value : Option Arg) → s.top.mode ≡ Mode.Resumed
      → fetch (function_of (framed e).given s) s.top.block s.top.at ≡ AtTerm (Terminator.Ret value) → ⊥

-- ---- the run that gives frames

-- no given frame is freed in the block of a label
abbrev pub LeadsPast : Elision → (func label : ℕ) → Type 0
LeadsPast e func label = (e.shape func).frees (position_of (function_in e func) label) ≡ None

-- an instance goes on where no frame is freed yet
pub record WakesPast (e : Elision) (x : Instance) (q : Point) : Type 0 where
  pub resume : LeadsPast e x.coroutine (resume_label (function_in e x.coroutine) q)
  pub destroy : LeadsPast e x.coroutine (destroy_label (function_in e x.coroutine) q)

pub record IsKeptGiving (e : Elision) (t : State) : Type 0 where
  -- each slot has a block of its own
  pub own : HaveOwnSlots t
  -- what was given its frame is of a coroutine that may be given it
  pub shapes : HaveShapes e t
  -- a destroy wakes an instance by a destroy edge
  pub wakes : WakesByEdge e t
  -- what is woken goes on in a block that frees nothing, at once or behind its allocas
  pub sleepers : (number : ℕ) (x : Instance) (q : Point) (values : Env) → slice_get t.instances number ≡ Some x
      → x.status ≡ Status.Suspended q values → WakesPast e x q
  pub entering : (from label : ℕ) → t.top.mode ≡ Mode.Entering from label → LeadsPast e t.top.func label
