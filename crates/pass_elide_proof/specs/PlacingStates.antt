-- Where the two runs stand, as far as the relation doesn't say it.
use Rattle.std.specs.Prelude.{◌≡◌, ◌<◌, ◌⊎◌, ◌+◌, ℕ, Bool, true, false, List, [], ◌∷◌, length, slice_get, Some, None, Option}
use Rattle.elide_sites.specs.Sites.{callee_in}
use Rattle.pass_elide_proof.specs.Elision.{Elision, framed, function_in, rooms}
use Rattle.pass_elide_proof.specs.Invariant.{IsSiteOf, StandsAt, behind}
use Rattle.pass_elide_proof.specs.Match.{IsAtEnd, is_given_mode, sides, was_given}
use Rattle.pass_elide_proof.specs.Places.{front_at, instrs_of, own_at}
use Rattle.pass_elide_proof.specs.Placing.{HasShape}
use Rattle.pass_proofs.specs.flow_blocks.Reach.{IsReached as IsReachedBlock}
use Rattle.pass_proofs.specs.ir_base.declared.outcome.Outcome.{Outcome}
use Rattle.pass_proofs.specs.ir_model.Names.{function_at}
use Rattle.pass_proofs.specs.ir_model.Ty.{Ty}
use Rattle.pass_proofs.specs.ir_model.declared.instr.Instr.{Instr}
use Rattle.pass_proofs.specs.ir_model.declared.module.Module.{Module}
use Rattle.pass_proofs.specs.ir_model.declared.operand.Arg.{Arg}
use Rattle.pass_proofs.specs.ir_model.declared.operand.Callee.{Callee}
use Rattle.pass_proofs.specs.ir_model.declared.operand.Intrinsic.{Intrinsic}
use Rattle.pass_proofs.specs.ir_parts.Contents.{result_of}
use Rattle.pass_proofs.specs.ir_paths.Windows.{is_call_of}
use Rattle.pass_proofs.specs.ir_paths.declared.point.Point.{Point}
use Rattle.pass_proofs.specs.run_framed.Framed.{is_given}
use Rattle.pass_proofs.specs.run_laws.changed.Changed.{Each}
use Rattle.pass_proofs.specs.run_source.State.{function_of, is_finished}
use Rattle.pass_proofs.specs.run_source.declared.state.Activation.{Activation}
use Rattle.pass_proofs.specs.run_source.declared.state.Instance.{Instance}
use Rattle.pass_proofs.specs.run_source.declared.state.Mode.{Mode}
use Rattle.pass_proofs.specs.run_source.declared.state.State.{State}
use Rattle.pass_proofs.specs.run_step.Step.{AtInstr, fetch}

-- ---- both at an instruction

-- All that is put in front of it has been executed. A path leads to the block.
pub record AreAtInstr (e : Elision) (s t : State) (i : Instr) : Type 0 where
  pub runs : s.outcome ≡ Outcome.Running
  pub there : fetch (function_of (framed e).given s) s.top.block s.top.at ≡ AtInstr i
  pub block : t.top.block ≡ s.top.block
  pub at : t.top.at ≡ own_at (rooms e s.top.func) (function_in e s.top.func) s.top.block s.top.at
  pub reached : IsReachedBlock (function_in e s.top.func) (0 ∷ []) [] s.top.block

-- both at the front of an intrinsic of coroutines
pub record AreAtIntrinsic (e : Elision) (s t : State) (j : Intrinsic) (result : Option ℕ) (must_tail : Bool)
    (ty : Option Ty) (args : List Arg) : Type 0 where
  pub runs : s.outcome ≡ Outcome.Running
  pub there : fetch (function_of (framed e).given s) s.top.block s.top.at
      ≡ AtInstr (Instr.Call result must_tail ty (Callee.Intrinsic j) args)
  pub block : t.top.block ≡ s.top.block
  pub front : t.top.at ≡ front_at (rooms e s.top.func) (function_in e s.top.func) s.top.block s.top.at

-- ---- invariants of the run that gives frames

-- A ramp that was given its frame isn't in the block that allocates, nor an activation whose frame was given in one
-- that frees.
pub record PassesBy (e : Elision) (t : State) (c : Activation) : Type 0 where
  pub waits : is_given_mode c.mode ≡ true → (e.shape c.func).waits c.block ≡ None
  pub frees : was_given (sides t t) c ≡ true → (e.shape c.func).frees c.block ≡ None

abbrev pub HavePassedBy : Elision → State → Type 0
HavePassedBy e t = Each (PassesBy e t) (t.top ∷ t.below)

-- each instance is one of a coroutine
abbrev pub AreOfCoroutines : Elision → List Instance → Type 0
AreOfCoroutines e xs =
    (i : ℕ) (x : Instance) → slice_get xs i ≡ Some x → (function_in e x.coroutine).coroutine ≡ true

-- the instance of an activation that hasn't left isn't Finished
pub record GoesOn (xs : List Instance) (a : Activation) : Type 0 where
  pub goes : (i : ℕ) (x : Instance) → a.instance ≡ Some i → slice_get xs i ≡ Some x → a.has_left ≡ false
      → is_finished x.status ≡ false

-- an activation is of the function that the call in front of the one below it calls
pub record IsCalledBy (e : Elision) (c b : Activation) : Type 0 where
  pub callee : (call : Point) (i : Instr) (name : ℕ) → IsSiteOf e b.func call i name → StandsAt e b (behind call)
      → callee_in e.code (Some i) ≡ Some c.func

-- ---- more of the run that gives frames

-- A ramp that was given its frame is one of a function whose calls may give it, and so is an instance whose frame was.
pub record HaveShapes (e : Elision) (t : State) : Type 0 where
  pub ramps : Each (λ (c : Activation). is_given_mode c.mode ≡ true → HasShape e c.func) (t.top ∷ t.below)
  pub instances : (i : ℕ) (y : Instance) → slice_get t.instances i ≡ Some y → is_given t.world.memory y ≡ true
      → HasShape e y.coroutine

-- ---- of framed runs

-- An activation has as many values as its function has names. A resumed one gives nothing back. One of a function that
-- is no coroutine is in no mode of coroutines, and has no instance.
pub record IsKnownAct (m : Module) (a : Activation) : Type 0 where
  pub room : length a.values ≡ length (function_at m a.func).names
  pub resumed : a.mode ≡ Mode.Resumed → a.result ≡ None
  pub entering : (from label : ℕ) → a.mode ≡ Mode.Entering from label → a.result ≡ None
  pub plain : (function_at m a.func).coroutine ≡ false → (a.mode ≡ Mode.Plain) × (a.instance ≡ None)

-- a call of a function, by its name or through a pointer
abbrev pub is_entering : Instr → Bool
is_entering (Instr.Call result must_tail ty (Callee.Named n) args) = true
is_entering (Instr.Call result must_tail ty (Callee.Local v) args) = true
is_entering _ = false

-- an activation stands right behind a call with this result
pub record IsBehindCall (m : Module) (result : Option ℕ) (b : Activation) : Type 0 where
  pub at : ℕ
  pub instr : Instr
  pub behind : b.at ≡ at + 1
  pub there : slice_get (instrs_of (function_at m b.func) b.block) at ≡ Some instr
  pub enters : is_entering instr ≡ true
  pub same : result ≡ result_of instr

-- each activation gives nothing back, or what the call in front of the one below it sets
abbrev pub ComeFromCalls : Module → List Activation → Type 0
ComeFromCalls m [] = Unit {0}
ComeFromCalls m (a ∷ []) = Unit {0}
ComeFromCalls m (a ∷ (b ∷ below)) = ((a.result ≡ None) ⊎ IsBehindCall m a.result b) × ComeFromCalls m (b ∷ below)

-- the lowest activation is the entry's
abbrev pub IsEntryLowest : List Activation → Type 0
IsEntryLowest [] = Unit {0}
IsEntryLowest (a ∷ []) = a.mode ≡ Mode.Plain
IsEntryLowest (a ∷ (b ∷ below)) = IsEntryLowest (b ∷ below)

pub record IsKnownState (m : Module) (s : State) : Type 0 where
  pub instances : (i : ℕ) (x : Instance) → slice_get s.instances i ≡ Some x
      → (function_at m x.coroutine).coroutine ≡ true
  pub acts : Each (IsKnownAct m) (s.top ∷ s.below)
  pub lowest : IsEntryLowest (s.top ∷ s.below)
  pub coming : ComeFromCalls m (s.top ∷ s.below)
  -- those that wait stand behind an instruction
  pub behind : Each (λ (b : Activation). 0 < b.at) s.below

-- coro.begin stands in coroutines
abbrev pub BeginsInCoroutines : Module → Type 0
BeginsInCoroutines m =
    (func block at : ℕ) (i : Instr) → fetch (function_at m func) block at ≡ AtInstr i
    → is_call_of Intrinsic.CoroBegin i ≡ true → (function_at m func).coroutine ≡ true

-- ---- a ramp that waits

-- the framed run is in the block that allocates, and the given ramp at the end of the block that asks
pub record IsLeftWaiting (e : Elision) (s t : State) : Type 0 where
  pub runs : s.outcome ≡ Outcome.Running
  pub given : is_given_mode t.top.mode ≡ true
  pub waits : (e.shape s.top.func).waits s.top.block ≡ Some t.top.block
  pub stays : IsAtEnd e t.top
