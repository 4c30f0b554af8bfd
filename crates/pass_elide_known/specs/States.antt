-- What each state of the framed run has, and each one of the run that gives frames, so that each instruction's step is
-- of a known kind.
use Rattle.std.specs.Prelude.{◌≡◌, ◌<◌, ◌^◌, ℕ, Bool, true, false, List, [], ◌∷◌, slice_get, Some, None, Option}
use Rattle.elide_shape.specs.Calls.{deals}
use Rattle.elide_shape.specs.declared.calls.Dealing.{Dealing}
use Rattle.pass_elide_proof.specs.Beginning.{BeginsInFrameSize}
use Rattle.pass_elide_proof.specs.Callers.{HaveBlocks}
use Rattle.pass_elide_proof.specs.Calling.{at_front}
use Rattle.pass_elide_proof.specs.Elision.{Elision, elided, elided_code, framed, function_in, function_in_elided}
use Rattle.pass_elide_proof.specs.Ends.{IsOwnSlot}
use Rattle.pass_elide_proof.specs.Invariant.{HaveCallers}
use Rattle.pass_elide_proof.specs.Making.{HaveSlots}
use Rattle.pass_elide_proof.specs.Marking.{HoldsNoFrame, first_operand, second_operand}
use Rattle.pass_elide_proof.specs.Match.{instance_in, is_given_mode}
use Rattle.pass_elide_proof.specs.Places.{instrs_of}
use Rattle.pass_elide_proof.specs.Placing.{HasShape}
use Rattle.pass_elide_proof.specs.PlacingStates.{HaveShapes, IsCalledBy, IsKnownState, PassesBy}
use Rattle.pass_elide_proof.specs.Releasing.{AreOfCallees, HaveReleased, IsFreeing}
use Rattle.pass_elide_proof.specs.Returning.{HaveOwnSlots}
use Rattle.pass_elide_proof.specs.Shapes.{AsksForFrame}
use Rattle.pass_elide_proof.specs.Sound.{IsSoundState}
use Rattle.pass_elide_known.specs.Keeping.{is_marker}
use Rattle.pass_elide_proof.specs.pass_proofs.flow_blocks.Reach.{IsReached as IsReachedBlock}
use Rattle.pass_elide_proof.specs.pass_proofs.ir_base.declared.outcome.Word.{Word}
use Rattle.pass_elide_proof.specs.pass_proofs.ir_model.Ty.{Ty}
use Rattle.pass_elide_proof.specs.pass_proofs.ir_model.declared.instr.Instr.{Instr}
use Rattle.pass_elide_proof.specs.pass_proofs.ir_model.declared.operand.Allocator.{Allocator}
use Rattle.pass_elide_proof.specs.pass_proofs.ir_model.declared.operand.Arg.{Arg}
use Rattle.pass_elide_proof.specs.pass_proofs.ir_model.declared.operand.Callee.{Callee}
use Rattle.pass_elide_proof.specs.pass_proofs.ir_model.declared.operand.Intrinsic.{Intrinsic}
use Rattle.pass_elide_proof.specs.pass_proofs.ir_model.declared.operand.Operand.{Operand}
use Rattle.pass_elide_proof.specs.pass_proofs.ir_paths.Windows.{is_call_of, operand_at}
use Rattle.pass_elide_proof.specs.pass_proofs.run_laws.changed.Changed.{Each}
use Rattle.pass_elide_proof.specs.pass_proofs.run_memory.declared.pointer.Value.{Value}
use Rattle.pass_elide_proof.specs.pass_proofs.run_source.State.{is_finished}
use Rattle.pass_elide_proof.specs.pass_proofs.run_source.declared.state.Activation.{Activation}
use Rattle.pass_elide_proof.specs.pass_proofs.run_source.declared.state.Instance.{Instance}
use Rattle.pass_elide_proof.specs.pass_proofs.run_source.declared.state.Mode.{Mode}
use Rattle.pass_elide_proof.specs.pass_proofs.run_source.declared.state.State.{State}
use Rattle.pass_elide_proof.specs.pass_proofs.run_step.Step.{block_of}
use Rattle.pass_elide_proof.specs.pass_proofs.run_step.Values.{arg_values, nth}
use Rattle.run_slots.specs.Slots.{IsSlottedState}

-- ---- places

-- the topmost activation stands at the instruction
abbrev pub StandsAtOne : Elision → State → Instr → Type 0
StandsAtOne e s i = slice_get (instrs_of (function_in e s.top.func) s.top.block) s.top.at ≡ Some i

-- ---- calls of allocators

-- the word that an allocator's call takes
pub record Allocates (e : Elision) (s : State) (a : Allocator) (result : Option ℕ) (must_tail : Bool) (ty : Option Ty)
    (args : List Arg) (word : Word) : Type 0 where
  pub there : StandsAtOne e s (Instr.Call result must_tail ty (Callee.Allocator a) args)
  pub allocates : deals Dealing.Allocates a ≡ true
  pub takes : nth (arg_values e.code s.top.values args) 0 ≡ Value.Int word

-- ---- marks

-- a marker marks the block of a slot, in which no frame lies
pub record MarksSlot (e : Elision) (s : State) (args : List Arg) : Type 0 where
  pub block : ℕ
  pub leads : block_of (first_operand e s args 1) ≡ Some block
  pub bare : HoldsNoFrame s.instances (first_operand e s args 1)

-- ---- activations that go on behind a suspend

-- while it executes its allocas it stands at one, and goes on at a label from a suspend's block
pub record IsEntering (e : Elision) (s : State) (from : ℕ) : Type 0 where
  pub name : ℕ
  pub ty : Ty
  pub align : ℕ
  pub there : StandsAtOne e s (Instr.Alloca name ty align)
  pub at : ℕ
  pub suspend : Instr
  pub is_there : slice_get (instrs_of (function_in e s.top.func) from) at ≡ Some suspend
  pub suspends : is_call_of Intrinsic.CoroSuspend suspend ≡ true

-- ---- the own instance

-- it isn't Finished, if there is one
abbrev pub OwnGoesOn : State → Type 0
OwnGoesOn s = (x : Instance) → instance_in s.instances s.top.instance ≡ Some x → is_finished x.status ≡ false

-- ---- a state of the framed run

pub record IsKnownFramed (e : Elision) (s : State) : Type 0 where
  pub known : IsKnownState e.code s
  pub slots : HaveSlots s
  pub slotted : IsSlottedState s
  pub sound : IsSoundState (framed e) s
  pub released : HaveReleased e s
  -- a path leads to the block of the place
  pub reached : IsReachedBlock (function_in e s.top.func) (0 ∷ []) [] s.top.block
  -- an activation of a coroutine is in a mode of coroutines; one that was resumed has an instance
  pub inside : (function_in e s.top.func).coroutine ≡ true → s.top.mode ≡ Mode.Plain → ⊥
  pub resumed : s.top.mode ≡ Mode.Resumed → s.top.instance ≡ None → ⊥
  pub entering : (from label : ℕ) → s.top.mode ≡ Mode.Entering from label → IsEntering e s from
  -- an instance that is saved isn't Finished
  pub saves : (result : Option ℕ) (must_tail : Bool) (ty : Option Ty) (args : List Arg)
      → StandsAtOne e s (Instr.Call result must_tail ty (Callee.Intrinsic Intrinsic.CoroSave) args) → OwnGoesOn s
  -- nor is one that a suspend saves, which has no token
  pub suspends : (result : Option ℕ) (must_tail : Bool) (ty : Option Ty) (args : List Arg)
      → StandsAtOne e s (Instr.Call result must_tail ty (Callee.Intrinsic Intrinsic.CoroSuspend) args)
      → operand_at args 0 ≡ Operand.None → OwnGoesOn s
  -- nor is that of an activation which comes to the end and hasn't left
  pub ends : (result : Option ℕ) (must_tail : Bool) (ty : Option Ty) (args : List Arg)
      → StandsAtOne e s (Instr.Call result must_tail ty (Callee.Intrinsic Intrinsic.CoroEnd) args)
      → s.top.has_left ≡ false → OwnGoesOn s
  -- slots of a resumed activation have no frames
  pub own : (result : Option ℕ) (must_tail : Bool) (ty : Option Ty) (args : List Arg)
      → StandsAtOne e s (Instr.Call result must_tail ty (Callee.Intrinsic Intrinsic.CoroEnd) args)
      → s.top.mode ≡ Mode.Resumed → Each (IsOwnSlot e s) s.top.slots
  -- allocators are asked for small sizes
  pub small : (a : Allocator) (result : Option ℕ) (must_tail : Bool) (ty : Option Ty) (args : List Arg) (word : Word)
      → Allocates e s a result must_tail ty args word → word.bits < 2 ^ 64
  -- a ramp whose function's calls may give its frame begins in a block of the frame's size
  pub exact : (result : Option ℕ) (must_tail : Bool) (ty : Option Ty) (args : List Arg)
      → StandsAtOne e s (Instr.Call result must_tail ty (Callee.Intrinsic Intrinsic.CoroBegin) args)
      → s.top.mode ≡ Mode.Ramp → HasShape e s.top.func → BeginsInFrameSize e s args
  pub marks : (j : Intrinsic) (result : Option ℕ) (must_tail : Bool) (ty : Option Ty) (args : List Arg)
      → is_marker (Instr.Call result must_tail ty (Callee.Intrinsic j) args) ≡ true
      → StandsAtOne e s (Instr.Call result must_tail ty (Callee.Intrinsic j) args) → MarksSlot e s args

-- ---- a state of the run that gives frames

-- the topmost activation stands at the instruction of the elided module
abbrev pub StandsAtElided : Elision → State → Instr → Type 0
StandsAtElided e t i =
    slice_get (instrs_of (function_in_elided e t.top.func) t.top.block) t.top.at ≡ Some i

pub record IsKnownGiving (e : Elision) (t : State) : Type 0 where
  pub known : IsKnownState (elided_code e) t
  pub sound : IsSoundState (elided e) t
  pub own : HaveOwnSlots t
  pub shapes : HaveShapes e t
  pub blocks : HaveBlocks t
  -- each frame that was given is of a coroutine that frees at once
  pub callees : AreOfCallees (IsFreeing e) t
  -- the topmost activation is of the function that the call of the one below it calls
  pub called : (c : Activation) (below : List Activation) → t.below ≡ c ∷ below → IsCalledBy e t.top c
  -- a function that has just been entered has no slots
  pub first : (function_in e t.top.func).coroutine ≡ false → t.top.block ≡ 0 → t.top.at ≡ 0 → t.top.slots ≡ []
  -- only a ramp that was given its frame passes by the allocation
  pub aside : (k : AsksForFrame (function_in e t.top.func) (e.shape t.top.func)) → t.top.block ≡ k.beside
      → is_given_mode t.top.mode ≡ true
  -- a marker marks no frame
  pub marks : (j : Intrinsic) (result : Option ℕ) (must_tail : Bool) (ty : Option Ty) (args : List Arg)
      → is_marker (Instr.Call result must_tail ty (Callee.Intrinsic j) args) ≡ true
      → StandsAtElided e t (Instr.Call result must_tail ty (Callee.Intrinsic j) args)
      → HoldsNoFrame t.instances (second_operand e t args 1)

-- ---- a state in which what is put in front of the place has been executed

-- what is asked of the run that gives frames there
pub record IsReadyGiving (e : Elision) (s u : State) : Type 0 where
  pub passed : PassesBy e u u.top
  pub sound : IsSoundState (elided e) u
  pub callees : AreOfCallees (IsFreeing e) u
  pub callers : HaveCallers e u
  pub front : HaveCallers e (at_front e s u)
  pub marks : (j : Intrinsic) (result : Option ℕ) (must_tail : Bool) (ty : Option Ty) (args : List Arg)
      → is_marker (Instr.Call result must_tail ty (Callee.Intrinsic j) args) ≡ true
      → StandsAtOne e s (Instr.Call result must_tail ty (Callee.Intrinsic j) args)
      → HoldsNoFrame u.instances (second_operand e u args 1)
