-- Steps of coroutines: what is open of the states, and which steps are other cases.
use Rattle.std.specs.Prelude.{◌≡◌, ◌⊎◌, ◌∷◌, ℕ, Bool, false, true, None, Some, Option, List}
use Rattle.pass_frames_proof.specs.ir_model.Ty.{Ty}
use Rattle.pass_frames_proof.specs.ir_model.declared.instr.Instr.{Instr}
use Rattle.pass_frames_proof.specs.ir_model.declared.instr.Terminator.{Terminator}
use Rattle.pass_frames_proof.specs.ir_model.declared.operand.Arg.{Arg}
use Rattle.pass_frames_proof.specs.ir_model.declared.operand.Callee.{Callee}
use Rattle.pass_frames_proof.specs.ir_model.declared.operand.Intrinsic.{Intrinsic}
use Rattle.pass_frames_proof.specs.ir_model.declared.operand.Operand.{Operand}
use Rattle.pass_frames_proof.specs.ir_parts.Contents.{instr_operands}
use Rattle.pass_frames_proof.specs.ir_paths.Windows.{operand_at}
use Rattle.pass_frames_proof.specs.pass_cells.Cells.{fetches_of}
use Rattle.pass_frames_proof.specs.pass_cells.Kept.{entry}
use Rattle.pass_frames_proof.specs.pass_cells.declared.plan.KeptValue.{KeptValue}
use Rattle.pass_frames_proof.specs.pass_copies.Uses.{is_access}
use Rattle.pass_frames_proof.specs.pass_fetch.Fetching.{fetch_of}
use Rattle.pass_frames_meaning.specs.Setting.{Setting}
use Rattle.pass_frames_meaning.specs.Standing.{IsStaying}
use Rattle.pass_frames_proof.specs.Code.{is_ahead, loaded, slot_table}
use Rattle.pass_frames_proof.specs.Followed.{IsFollowed}
use Rattle.pass_frames_proof.specs.Lines.{IsStorable}
use Rattle.pass_frames_proof.specs.Marking.{IsBeforeBegin, IsBehindBegin, IsEarlyMarked, IsKeptMarker, IsUnmarked, IsWholeMarked, marking}
use Rattle.pass_frames_proof.specs.Places.{Framing, copies, offsets, plan}
use Rattle.pass_frames_proof.specs.Related.{AreBuiltOf, IsKeptValue, is_coroutine, is_first}
use Rattle.pass_frames_proof.specs.Stepping.{IsNotEntering, IsPlacedOperand, IsUnlocated, state_in}
use Rattle.pass_frames_proof.specs.pass_proofs.addresses.rules.Addresses.{lies_in_frame}
use Rattle.pass_frames_proof.specs.pass_proofs.fetch.rules.Fetches.{AreUnfetched}
use Rattle.pass_frames_proof.specs.pass_renewed_proof.Renewed.{renewed_step}
use Rattle.pass_frames_proof.specs.rule_laws.rules.function_rules.Kept.{KeepsFunctionRules}
use Rattle.pass_frames_proof.specs.run_laws.changed.Changed.{Each}
use Rattle.pass_frames_proof.specs.run_memory.declared.pointer.Value.{Value}
use Rattle.pass_frames_proof.specs.run_source.State.{function_of}
use Rattle.pass_frames_proof.specs.run_source.declared.state.Activation.{Activation}
use Rattle.pass_frames_proof.specs.run_source.declared.state.Mode.{Mode}
use Rattle.pass_frames_proof.specs.run_source.declared.state.State.{State}
use Rattle.pass_frames_proof.specs.run_step.Step.{AtInstr, AtTerm, fetch}
use Rattle.pass_frames_proof.specs.run_step.Values.{value_in}
use Rattle.pass_frames_proof.specs.run_step.declared.world.Slot.{Slot}

-- what a kept name of the coroutine on top has fits the type in which it is kept
abbrev pub HasStorables : Setting → State → Type 0
HasStorables c s =
    is_coroutine c.b s.top.func ≡ true → (r : ℕ) (k : KeptValue) → IsKeptValue (c.b.framing s.top.func) r k
    → IsStorable k.ty (value_in s.top.values r)

-- No access of an instruction goes by the address of a slot that is used before begin.
abbrev pub IsUnlocatedHere : Setting → State → Instr → Type 0
IsUnlocatedHere c s i =
    IsUnlocated (c.b.framing s.top.func) (state_in (c.b.framing s.top.func) s.top.block s.top.at) i

-- The name is kept in no cell and lies in no frame. So nothing is fetched for it.
pub record IsNowhere (x : Framing) (v : ℕ) : Type 0 where
  pub unkept : entry (plan x).places v ≡ None
  pub outside : lies_in_frame (offsets x) v ≡ false
  pub loaded : fetch_of (fetches_of (plan x)) (Operand.Local v) ≡ None
  pub placed : fetch_of (slot_table x) (Operand.Local v) ≡ None

-- What isn't derived yet of a state of a coroutine.
pub record MayFollow (c : Setting) (s : State) : Type 0 where
  -- acceptance of the source: without blocks on edges the coroutine breaks no rule
  pub position : ℕ
  pub rules : KeepsFunctionRules (c.b.framing s.top.func).code position (c.b.framing s.top.func).function
  -- an invariant of the run: the name of a slot has its address, or poison, and begin's value is the instance's frame
  pub operands : (i : Instr) → fetch (function_of c.g.given s) s.top.block s.top.at ≡ AtInstr i → IsStaying i
      → IsUnlocatedHere c s i → Each (IsPlacedOperand (c.b.framing s.top.func) s) (instr_operands i)
  -- an invariant of the run, of each state: a name of a pointer's type has a pointer or poison
  pub storables : HasStorables c (renewed_step c.g s)

-- What isn't derived yet where a suspend stands at the place.
pub record MaySuspend (c : Setting) (s : State) (result : Option ℕ) (args : List Arg) : Type 0 where
  -- it takes the token of its own save, and has a result for its switch (K2, K3)
  pub token : ℕ
  pub takes : operand_at args 0 ≡ Operand.Local token
  pub name : ℕ
  pub named : result ≡ Some name
  -- its result is used by its switch alone (K3), so it crosses no suspend
  pub unkept : entry (plan (c.b.framing s.top.func)).places name ≡ None

-- The slot of a marker of a coroutine: the name of an alloca has its slot's address, or poison (the run's invariant).
-- A slot that is made anew has no marker left.
pub data IsMarkedHere (c : Setting) (s t : State) (r : AreBuiltOf c.b s t) (starts : Bool) (i : Instr) (slot : ℕ)
    : Type 0 where
  Anew : IsUnmarked c.b s i → c.g.flags s.top.func slot ≡ true → IsMarkedHere c s t r starts i slot
  Unmade : IsUnmarked c.b s i → c.g.flags s.top.func slot ≡ false → value_in s.top.values slot ≡ Value.Poison
      → IsMarkedHere c s t r starts i slot
  Before : IsUnmarked c.b s i → c.g.flags s.top.func slot ≡ false → IsBeforeBegin c.b s slot
      → IsMarkedHere c s t r starts i slot
  Early : IsUnmarked c.b s i → c.g.flags s.top.func slot ≡ false → IsEarlyMarked c.b s t r slot
      → IsMarkedHere c s t r starts i slot
  Behind : IsUnmarked c.b s i → c.g.flags s.top.func slot ≡ false → IsBehindBegin c.b s slot starts
      → IsMarkedHere c s t r starts i slot
  Whole : IsKeptMarker c.b s i slot → c.g.flags s.top.func slot ≡ false → (z : Slot) → IsWholeMarked c.b s slot z
      → IsMarkedHere c s t r starts i slot

-- What isn't derived yet where a marker stands at the place.
pub record MayMark (c : Setting) (s t : State) (r : AreBuiltOf c.b s t) (starts : Bool) : Type 0 where
  pub each : (must_tail : Bool) (ty : Option Ty) (size : Arg) (u : Ty) (slot : ℕ)
      → fetch (function_of c.g.given s) s.top.block s.top.at ≡ AtInstr (marking starts must_tail ty size u slot)
      → IsMarkedHere c s t r starts (marking starts must_tail ty size u slot) slot
  -- no alloca is a value that crosses (`AreCellsFor`)
  pub unkept : (must_tail : Bool) (ty : Option Ty) (size : Arg) (u : Ty) (slot : ℕ)
      → fetch (function_of c.g.given s) s.top.block s.top.at ≡ AtInstr (marking starts must_tail ty size u slot)
      → entry (plan (c.b.framing s.top.func)).places slot ≡ None

-- What isn't derived yet where coro.end stands at the place.
pub record MayEnd (s : State) : Type 0 where
  -- each path to it leads over begin, so the activation has an instance
  pub number : ℕ
  pub own : s.top.instance ≡ Some number
  -- a coroutine's activation is a ramp's, or is pushed by a resume or destroy onto another one
  pub from : (is_first s.top.mode ≡ true)
      ⊎ ((s.top.mode ≡ Mode.Resumed) × (a : Activation) × (more : List Activation) × (s.below ≡ a ∷ more))

-- intrinsics each of which is a case of its own
abbrev pub IsOwnKind : Intrinsic → Type 0
IsOwnKind Intrinsic.CoroId = Unit {0}
IsOwnKind Intrinsic.CoroBegin = Unit {0}
IsOwnKind Intrinsic.CoroSave = Unit {0}
IsOwnKind _ = ⊥

abbrev pub IsEnding : Terminator → Type 0
IsEnding Terminator.Unreachable = ⊥
IsEnding _ = Unit {0}

-- Steps of coroutines that are other cases.
pub record AreOthersFollowed (c : Setting) (s t : State) : Type 0 where
  -- accesses before begin of slots that are used there, which go by the addresses in their cells
  pub located : (i : Instr) → fetch (function_of c.g.given s) s.top.block s.top.at ≡ AtInstr i → is_access i ≡ true
      → is_ahead (state_in (c.b.framing s.top.func) s.top.block s.top.at) ≡ true
      → (AreUnfetched (copies (c.b.framing s.top.func)).fetches (instr_operands (loaded (c.b.framing s.top.func)
      (state_in (c.b.framing s.top.func) s.top.block s.top.at) i)) → ⊥) → IsFollowed c.b c.g s t
  -- getelementptrs whose distance is kept
  pub measured : (r : ℕ) (inbounds : Bool) (ty : Ty) (base : Operand) (indices : List Arg) (cell : ℕ)
      → fetch (function_of c.g.given s) s.top.block s.top.at ≡ AtInstr (Instr.Gep r inbounds ty base indices)
      → entry (plan (c.b.framing s.top.func)).cells r ≡ Some cell → IsFollowed c.b c.g s t
  pub allocas : (r : ℕ) (ty : Ty) (align : ℕ)
      → fetch (function_of c.g.given s) s.top.block s.top.at ≡ AtInstr (Instr.Alloca r ty align)
      → IsFollowed c.b c.g s t
  -- coro.id, begin and saves
  pub intrinsics : (x : Intrinsic) → IsOwnKind x → (result : Option ℕ) (must_tail : Bool) (ty : Option Ty)
      (args : List Arg)
      → fetch (function_of c.g.given s) s.top.block s.top.at
      ≡ AtInstr (Instr.Call result must_tail ty (Callee.Intrinsic x) args) → IsFollowed c.b c.g s t
  -- markers, where this is known
  pub marks : (r : AreBuiltOf c.b s t) (starts : Bool) → MayMark c s t r starts
  -- suspends, where this is known
  pub suspends : (result : Option ℕ) (must_tail : Bool) (ty : Option Ty) (args : List Arg)
      → fetch (function_of c.g.given s) s.top.block s.top.at
      ≡ AtInstr (Instr.Call result must_tail ty (Callee.Intrinsic Intrinsic.CoroSuspend) args)
      → MaySuspend c s result args
  -- coro.end, where this is known
  pub end_calls : (result : Option ℕ) (must_tail : Bool) (ty : Option Ty) (args : List Arg)
      → fetch (function_of c.g.given s) s.top.block s.top.at
      ≡ AtInstr (Instr.Call result must_tail ty (Callee.Intrinsic Intrinsic.CoroEnd) args) → MayEnd s
  -- jumps, branches, switches and returns
  pub ends : (e : Terminator) → IsEnding e → fetch (function_of c.g.given s) s.top.block s.top.at ≡ AtTerm e
      → IsFollowed c.b c.g s t

-- What is asked where a coroutine's activation is on top.
pub record AreCoroutinesReady (c : Setting) (s t : State) : Type 0 where
  pub may : IsNotEntering s.top.mode → MayFollow c s
  pub others : IsNotEntering s.top.mode → AreOthersFollowed c s t
  -- a resumed activation that makes slots anew
  pub entering : (from label : ℕ) → s.top.mode ≡ Mode.Entering from label → IsFollowed c.b c.g s t
