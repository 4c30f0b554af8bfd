-- What rules of the framed module and the code of its parts give at the places of related states.
use Rattle.std.specs.Prelude.{◌≡◌, ℕ, ◌<◌, ◌^◌, Bool, true, false, List, [], ◌∷◌, length, slice_get, Some, None, Option, find}
use Rattle.pass_proofs.specs.frame_layout.declared.layout.PlacedField.{PlacedField}
use Rattle.pass_proofs.specs.flow_solver.Paths.{IsListed}
use Rattle.pass_proofs.specs.ir_base.declared.name.Name.{Name}
use Rattle.pass_proofs.specs.ir_base.declared.outcome.Outcome.{Outcome}
use Rattle.pass_proofs.specs.ir_base.declared.outcome.Word.{Word}
use Rattle.pass_proofs.specs.ir_model.Names.{function_at, function_named, position_of}
use Rattle.pass_proofs.specs.ir_model.Ty.{Ty}
use Rattle.pass_proofs.specs.ir_model.declared.instr.Instr.{Instr}
use Rattle.pass_proofs.specs.ir_model.declared.instr.Phi.{Phi}
use Rattle.pass_proofs.specs.ir_model.declared.instr.Terminator.{Terminator}
use Rattle.pass_proofs.specs.ir_model.declared.module.Block.{Block}
use Rattle.pass_proofs.specs.ir_model.declared.module.Function.{Function}
use Rattle.pass_proofs.specs.ir_model.declared.operand.Allocator.{Allocator}
use Rattle.pass_proofs.specs.ir_model.declared.operand.Arg.{Arg}
use Rattle.pass_proofs.specs.ir_model.declared.operand.Callee.{Callee}
use Rattle.pass_proofs.specs.ir_model.declared.operand.Intrinsic.{Intrinsic}
use Rattle.pass_proofs.specs.ir_model.declared.operand.Operand.{Operand}
use Rattle.pass_proofs.specs.pass_front.Front.{allocas_of}
use Rattle.pass_proofs.specs.pass_intrinsics.Cuts.{goes_on}
use Rattle.pass_proofs.specs.pass_intrinsics.Shapes.{suspends_of}
use Rattle.pass_proofs.specs.pass_intrinsics.declared.shape.Part.{Part}
use Rattle.pass_proofs.specs.pass_intrinsics.declared.shape.SuspendPoint.{SuspendPoint}
use Rattle.pass_proofs.specs.split.rules.Reached.{IsLedTo}
use Rattle.pass_proofs.specs.pass_split.Given.{has_given_call}
use Rattle.pass_proofs.specs.pass_split.Parts.{is_entered}
use Rattle.pass_proofs.specs.pass_split.Reached.{reached}
use Rattle.pass_split_proof.specs.begins.Beginning.{IsAtBegin}
use Rattle.pass_split_proof.specs.begins.Saving.{IsAtSave}
use Rattle.pass_split_proof.specs.branching.Terminators.{IsAtTerm}
use Rattle.pass_split_proof.specs.calling.Named.{IsAtCall}
use Rattle.pass_split_proof.specs.entering.Entering.{GoesBehind, IsMakingAgain}
use Rattle.pass_split_proof.specs.freeing.Deallocating.{IsAtDeallocator, deallocates}
use Rattle.pass_split_proof.specs.giving.Intrinsics.{HasOwnSize, IsAtIntrinsic, is_constant}
use Rattle.pass_split_proof.specs.making.Blocks.{IsAtAllocator, IsAtAlloca, allocates}
use Rattle.pass_split_proof.specs.marking.Markers.{IsAtMarker}
use Rattle.pass_split_proof.specs.places.Places.{IsCodeOf, IsPlace, StartsWithEnd}
use Rattle.pass_split_proof.specs.silent.Suspending.{IsAtSuspendInPart}
use Rattle.pass_split_proof.specs.states.Activations.{is_entering}
use Rattle.pass_split_proof.specs.states.Instances.{IsLaidOut, StandsThere, is_held, part_position, shape_at}
use Rattle.pass_split_proof.specs.states.Related.{AreRelated}
use Rattle.pass_split_proof.specs.steps.Calling.{TakesPointer}
use Rattle.pass_split_proof.specs.steps.Ordinary.{IsAtOrdinary, is_ordinary}
use Rattle.pass_split_proof.specs.steps.Resuming.{IsAtWaking}
use Rattle.pass_split_proof.specs.steps.Woken.{IsPartThere}
use Rattle.pass_split_proof.specs.transfers.Passing.{HasSuspendsBeforeEnd}
use Rattle.pass_split_proof.specs.steps.Returns.{IsReturnBlock}
use Rattle.pass_proofs.specs.run_framed.Framed.{FramedGiven, given_call, given_ramp, is_promise_kind, layout_of}
use Rattle.run_types.specs.run_hooks.Reached.{AllHaveSwitches}
use Rattle.pass_proofs.specs.run_laws.changed.Changed.{result_of}
use Rattle.pass_proofs.specs.run_laws.embedded.Related.{HasNoSlot}
use Rattle.pass_proofs.specs.run_memory.declared.pointer.Offset.{Offset}
use Rattle.pass_proofs.specs.run_memory.declared.pointer.Pointer.{Pointer}
use Rattle.pass_proofs.specs.run_memory.declared.pointer.Value.{Value}
use Rattle.run_access_worked.specs.run_plain.Plain.{PlainGiven}
use Rattle.run_access_worked.specs.run_plain.declared.state.PlainState.{PlainState}
use Rattle.pass_proofs.specs.run_source.State.{function_of}
use Rattle.pass_proofs.specs.run_source.declared.state.Instance.{Instance}
use Rattle.pass_proofs.specs.run_source.declared.state.Mode.{Mode}
use Rattle.pass_proofs.specs.run_source.declared.state.State.{State}
use Rattle.pass_proofs.specs.run_step.Step.{AtInstr, AtTerm, Fetched, fetch, is_lifetime}
use Rattle.pass_proofs.specs.run_step.Values.{arg_values, nth}

-- ---- functions, whatever the states are

-- A coroutine of the framed module, and its parts that go on.
pub record IsCoroutineThere (g : FramedGiven) (h : PlainGiven) (func : ℕ) : Type 0 where
  pub laid : IsLaidOut g func
  -- the promise is at 16 (`IsGoodLayout`)
  pub promise : (x : PlacedField) → find (λ y. is_promise_kind y.kind) (layout_of g.layouts func).fields ≡ Some x
      → x.offset ≡ 16
  pub parts : (part : Part) → goes_on part ≡ true → StandsThere g func part → IsPartThere g h.code func part
  pub takes : (part : Part) → goes_on part ≡ true → StandsThere g func part
      → TakesPointer h (part_position g func part)
  -- N3: no function of the framed module has the name of a part
  pub cleanup : has_given_call g.given.code (function_at g.given.code func) ≡ false
      → IsCodeOf (function_at g.given.code func) (function_at h.code (part_position g func Part.Cleanup))
      (shape_at g func) Part.Cleanup → ⊥
  pub ends : StartsWithEnd (function_at g.given.code func) (shape_at g func).end
  -- K8, and the saves that the first pass writes
  pub suspends : HasSuspendsBeforeEnd (function_at g.given.code func) (shape_at g func).end
  pub returns : (p : SuspendPoint) → IsListed p (suspends_of (function_at g.given.code func))
      → IsReturnBlock (function_at g.given.code func) p.resume × IsReturnBlock (function_at g.given.code func) p.destroy
  -- N1: each block is the first with its label
  pub blocks : (k : ℕ) (b : Block) → slice_get (function_at g.given.code func).blocks k ≡ Some b
      → position_of (function_at g.given.code func) b.label ≡ k
  pub entered : (part : Part) (p : SuspendPoint) → goes_on part ≡ true
      → IsListed p (suspends_of (function_at g.given.code func)) → IsLedTo (function_at g.given.code func) p.block
      → (part ≡ Part.Resume → p.is_final ≡ false)
      → is_entered (reached (function_at g.given.code func)) part p ≡ true

-- an alloca of a name stands in the entry block
pub record IsEntryAlloca (f : Function) (at name : ℕ) : Type 0 where
  pub ty : Ty
  pub align : ℕ
  pub there : fetch f 0 at ≡ AtInstr (Instr.Alloca name ty align)

-- a marker's pointer is an alloca that stands before it
pub record MarksAlloca (f : Function) (block at : ℕ) (args : List Arg) : Type 0 where
  pub size : Arg
  pub name : ℕ
  pub pointer : Arg
  pub are : args ≡ size ∷ pointer ∷ []
  pub is : pointer.value ≡ Operand.Local name
  pub made : ℕ
  pub alloca : IsEntryAlloca f made name
  pub before : block ≡ 0 → made < at

-- Allocas stand in the entry block (F3), and nothing else sets their names (N1). Markers mark allocas (K13), which
-- stand before them (F2).
pub record AreAllocasAlone (f : Function) : Type 0 where
  pub first : (block at name align : ℕ) (ty : Ty) → fetch f block at ≡ AtInstr (Instr.Alloca name ty align)
      → block ≡ 0
  pub once : (at name : ℕ) → IsEntryAlloca f at name → (block other : ℕ) (i : Instr)
      → fetch f block other ≡ AtInstr i → result_of i ≡ Some name → (block ≡ 0) × (other ≡ at)
  pub phis : (at name : ℕ) → IsEntryAlloca f at name → (b : Block) (p : Phi) → IsListed b f.blocks
      → IsListed p b.phis → p.result ≡ name → ⊥
  pub known : (at name : ℕ) → IsEntryAlloca f at name → name < length f.names
  pub marks : (block at : ℕ) (result : Option ℕ) (must_tail : Bool) (ty : Option Ty) (callee : Callee) (args : List Arg)
      → fetch f block at ≡ AtInstr (Instr.Call result must_tail ty callee args) → is_lifetime callee ≡ true
      → MarksAlloca f block at args

-- the intrinsics that stand in coroutines alone (K1)
abbrev pub is_of_coroutines : Intrinsic → Bool
is_of_coroutines Intrinsic.CoroResume = false
is_of_coroutines Intrinsic.CoroDestroy = false
is_of_coroutines Intrinsic.CoroDone = false
is_of_coroutines Intrinsic.CoroPromise = false
is_of_coroutines Intrinsic.LifetimeStart = false
is_of_coroutines Intrinsic.LifetimeEnd = false
is_of_coroutines Intrinsic.MemcpyI64 = false
is_of_coroutines Intrinsic.MemcpyI32 = false
is_of_coroutines i = true

-- the intrinsics that take the address of a frame, or of a promise
abbrev pub asks_frame : Intrinsic → Bool
asks_frame Intrinsic.CoroResume = true
asks_frame Intrinsic.CoroDestroy = true
asks_frame Intrinsic.CoroDone = true
asks_frame Intrinsic.CoroPromise = true
asks_frame i = false

-- what holds of all functions of the framed module
pub record AreFunctionsMet (g : FramedGiven) (h : PlainGiven) : Type 0 where
  pub coroutines : (func : ℕ) → (function_at g.given.code func).coroutine ≡ true → IsCoroutineThere g h func
  pub allocas : (func : ℕ) → AreAllocasAlone (function_at g.given.code func)
  pub switches : AllHaveSwitches g.given.code
  -- K1
  pub intrinsics : (func block at : ℕ) (result : Option ℕ) (must_tail : Bool) (ty : Option Ty) (x : Intrinsic)
      (args : List Arg) → fetch (function_at g.given.code func) block at ≡ AtInstr (Instr.Call result must_tail ty
      (Callee.Intrinsic x) args) → is_of_coroutines x ≡ true → (function_at g.given.code func).coroutine ≡ true
  -- P1
  pub direct : (func block at : ℕ) (result : Option ℕ) (must_tail : Bool) (ty : Option Ty) (name : ℕ)
      (args : List Arg) → fetch (function_at g.given.code func) block at ≡ AtInstr (Instr.Call result must_tail ty
      (Callee.Local name) args) → ⊥

-- ---- the place of related states

-- what the framed run is at
abbrev pub IsAt : FramedGiven → State → Fetched → Type 0
IsAt g s x = fetch (function_of g.given s) s.top.block s.top.at ≡ x

-- the framed run goes on, and the part is at the same place
pub record IsAtPlace (g : FramedGiven) (h : PlainGiven) (s : State) (t : PlainState) (r : AreRelated g h s t)
    : Type 0 where
  pub running : s.outcome ≡ Outcome.Running
  pub settled : is_entering s.top.mode ≡ false
  pub place : IsPlace r.top.shape r.top.part (function_of g.given s) (function_at h.code t.top.func) s.top.block
      s.top.at t.top.block t.top.at

-- functions of the framed module are found where their first parts are
abbrev pub first_parts : FramedGiven → ℕ → ℕ
first_parts g func = part_position g func Part.Ramp

-- What is asked of the instruction or terminator at the same place of both, by its kind. What the state alone gives
-- comes as an argument: the mode, sizes for allocators, the block of a marker, and the frame of a save.
pub record ArePlacesMet (g : FramedGiven) (h : PlainGiven) (s : State) (t : PlainState) (r : AreRelated g h s t)
    : Type 0 where
  -- the switch of a suspend isn't at the same place of a part, which has no value for it (K3)
  pub term : (term : Terminator) → IsAt g s (AtTerm term) → IsAtPlace g h s t r → IsAtTerm g h s t r term
  -- a call that gives a frame isn't named in the parts as it is
  pub ordinary : (i : Instr) → IsAt g s (AtInstr i) → IsAtPlace g h s t r → given_call g s (AtInstr i) ≡ None
      → is_ordinary i ≡ true → HasNoSlot (AtInstr i) → IsAtOrdinary (first_parts g) g h s t r i
  pub called : (result : Option ℕ) (must_tail : Bool) (ty : Option Ty) (name : Name) (args : List Arg) (func : ℕ)
      → IsAt g s (AtInstr (Instr.Call result must_tail ty (Callee.Named name) args)) → IsAtPlace g h s t r
      → function_named g.given.code name ≡ Some func → given_ramp g.given.code name ≡ None → IsAtCall g h s t r
  pub alloca : (name align : ℕ) (ty : Ty) → IsAt g s (AtInstr (Instr.Alloca name ty align)) → IsAtPlace g h s t r
      → IsAtAlloca g h s t r
  pub allocator : (result : Option ℕ) (must_tail : Bool) (ty : Option Ty) (a : Allocator) (args : List Arg)
      → IsAt g s (AtInstr (Instr.Call result must_tail ty (Callee.Allocator a) args)) → IsAtPlace g h s t r
      → allocates a ≡ true
      → ((x : Word) → nth (arg_values g.given.code s.top.values args) 0 ≡ Value.Int x → x.bits < 2 ^ 64)
      → IsAtAllocator g h s t r
  pub deallocator : (result : Option ℕ) (must_tail : Bool) (ty : Option Ty) (a : Allocator) (args : List Arg)
      → IsAt g s (AtInstr (Instr.Call result must_tail ty (Callee.Allocator a) args)) → IsAtPlace g h s t r
      → deallocates a ≡ true → IsAtDeallocator g h s t r
  -- the block is that of the record that is given (`block` and `offset` of it are these)
  pub marker : (result : Option ℕ) (must_tail : Bool) (ty : Option Ty) (x : Intrinsic) (args : List Arg)
      → IsAt g s (AtInstr (Instr.Call result must_tail ty (Callee.Intrinsic x) args)) → IsAtPlace g h s t r
      → is_lifetime (Callee.Intrinsic x) ≡ true → (block : ℕ) (offset : Offset)
      → nth (arg_values g.given.code s.top.values args) 1 ≡ Value.Ptr (Pointer.At block offset)
      → (k : IsAtMarker g h s t r x) × (k.block ≡ block)
  pub intrinsic : (result : Option ℕ) (must_tail : Bool) (ty : Option Ty) (x : Intrinsic) (args : List Arg)
      → IsAt g s (AtInstr (Instr.Call result must_tail ty (Callee.Intrinsic x) args)) → IsAtPlace g h s t r
      → (x ≡ Intrinsic.CoroBegin → ⊥) → IsAtIntrinsic g h s t r x
  pub sized : (result : Option ℕ) (must_tail : Bool) (ty : Option Ty) (x : Intrinsic) (args : List Arg)
      → IsAt g s (AtInstr (Instr.Call result must_tail ty (Callee.Intrinsic x) args)) → is_constant x ≡ true
      → HasOwnSize g s r.top.shape
  pub asking : (result : Option ℕ) (must_tail : Bool) (ty : Option Ty) (x : Intrinsic) (args : List Arg)
      → IsAt g s (AtInstr (Instr.Call result must_tail ty (Callee.Intrinsic x) args)) → IsAtPlace g h s t r
      → asks_frame x ≡ true → IsAtWaking g h s t r x
  pub begin : (result : Option ℕ) (must_tail : Bool) (ty : Option Ty) (args : List Arg)
      → IsAt g s (AtInstr (Instr.Call result must_tail ty (Callee.Intrinsic Intrinsic.CoroBegin) args))
      → IsAtPlace g h s t r → s.top.mode ≡ Mode.Ramp → IsAtBegin g h s t r
  pub save : (result : Option ℕ) (must_tail : Bool) (ty : Option Ty) (args : List Arg)
      → IsAt g s (AtInstr (Instr.Call result must_tail ty (Callee.Intrinsic Intrinsic.CoroSave) args))
      → IsAtPlace g h s t r
      → ((i : ℕ) (x : Instance) → s.top.instance ≡ Some i → slice_get s.instances i ≡ Some x → x.freed ≡ false
      → is_held s.world.memory x ≡ true)
      → IsAtSave g h s t r
  pub suspend : (result : Option ℕ) (must_tail : Bool) (ty : Option Ty) (args : List Arg)
      → IsAt g s (AtInstr (Instr.Call result must_tail ty (Callee.Intrinsic Intrinsic.CoroSuspend) args))
      → IsAtPlace g h s t r → IsAtSuspendInPart g h s t r
  -- an activation that goes on behind a suspend, among the allocas that it makes again first
  pub making : (from label : ℕ) → s.top.mode ≡ Mode.Entering from label → s.top.block ≡ 0 → t.top.block ≡ 0
      → t.top.at ≡ s.top.at → s.top.at < length (allocas_of (function_of g.given s).blocks)
      → IsMakingAgain g h s t r from label
  pub behind : (from label : ℕ) → s.top.mode ≡ Mode.Entering from label → GoesBehind g h s t r label

-- all that is asked
pub record ArePremisesMet (g : FramedGiven) (h : PlainGiven) : Type 0 where
  pub functions : AreFunctionsMet g h
  pub places : (s : State) (t : PlainState) (r : AreRelated g h s t) → ArePlacesMet g h s t r
