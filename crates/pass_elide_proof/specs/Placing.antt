-- What a framed module keeps, and its shapes, so that what stands at a place tells what both runs do there.
use Rattle.std.specs.Prelude.{◌≡◌, ◌≢◌, ◌⊎◌, ◌<◌, ◌^◌, ℕ, Bool, true, false, List, [], ◌∷◌, length, slice_get, IsTrue, Some, None, Option, is_some}
use Rattle.elide_shape.specs.Calls.{deals_by}
use Rattle.elide_shape.specs.declared.calls.Dealing.{Dealing}
use Rattle.pass_elide.specs.declared.given.GivenFrame.{GivenFrame}
use Rattle.pass_elide_proof.specs.Calling.{DestroysHandles, IsAligned, MarksOwn, StartsAlike}
use Rattle.pass_elide_proof.specs.Edges.{phis_at}
use Rattle.pass_elide_proof.specs.Elision.{Elision, Shape, framed, function_in, no_shape, rooms}
use Rattle.pass_elide_proof.specs.Match.{frame_size}
use Rattle.pass_elide_proof.specs.Ordinary.{HasSteadyIndices}
use Rattle.pass_elide_proof.specs.Places.{allocas_ahead, instrs_of, room_at}
use Rattle.pass_elide_proof.specs.Shapes.{AsksForFrame}
use Rattle.pass_elide_proof.specs.Waking.{WakesAlike}
use Rattle.pass_proofs.specs.flow_blocks.Reach.{IsReached as IsReachedBlock}
use Rattle.pass_proofs.specs.ir_base.declared.name.Name.{Name}
use Rattle.pass_proofs.specs.ir_model.Layout.{size_of}
use Rattle.pass_proofs.specs.ir_model.Names.{function_named, noalloc_of}
use Rattle.pass_proofs.specs.ir_model.Ty.{Ty}
use Rattle.pass_proofs.specs.ir_model.declared.instr.Instr.{Instr}
use Rattle.pass_proofs.specs.ir_model.declared.instr.Terminator.{Terminator}
use Rattle.pass_proofs.specs.ir_model.declared.module.Function.{Function}
use Rattle.pass_proofs.specs.ir_model.declared.operand.Arg.{Arg}
use Rattle.pass_proofs.specs.ir_model.declared.operand.Callee.{Callee}
use Rattle.pass_proofs.specs.ir_model.declared.operand.Intrinsic.{Intrinsic}
use Rattle.pass_proofs.specs.ir_model.declared.operand.Operand.{Operand}
use Rattle.pass_proofs.specs.ir_parts.Contents.{result_of}
use Rattle.pass_proofs.specs.ir_paths.Windows.{is_call_of, points_where}
use Rattle.pass_proofs.specs.run_framed.Framed.{given_ramp, promise_offset}
use Rattle.pass_proofs.specs.run_laws.changed.Changed.{Each}
use Rattle.pass_proofs.specs.run_laws.embedded.Related.{HasBytes}
use Rattle.pass_proofs.specs.run_source.declared.state.Instance.{Instance}
use Rattle.pass_proofs.specs.run_step.Reads.{reads}
use Rattle.pass_proofs.specs.run_step.Step.{AtInstr, AtTerm, fetch, is_alignment}
use Rattle.run_slots.specs.Slots.{GivesNoFrames}

-- ---- an instruction

-- a test for null of what coro.free gave
abbrev pub is_test : Shape → Instr → Bool
is_test x (Instr.Icmp name pred ty a b) = is_some (x.tested name)
is_test x _ = false

-- an instruction that neither begins, nor asks of a frame that may be given, nor is handed what was answered
pub record IsPlain (x : Shape) (i : Instr) : Type 0 where
  pub begins : is_call_of Intrinsic.CoroBegin i ≡ false
  pub asks : is_call_of Intrinsic.CoroAlloc i ≡ false
  pub frees : is_call_of Intrinsic.CoroFree i ≡ false
  pub tests : is_test x i ≡ false
  pub takes : deals_by Dealing.Frees i ≡ true → (v : ℕ) → IsTrue (reads v i) → x.freed v ≡ false

-- ---- the names of an instruction in a block

-- No answer is read but by a test and a deallocator. What is made where a frame is allocated or freed is read there, and
-- by begin.
pub record ReadsPlain (x : Shape) (block : ℕ) (i : Instr) (v : ℕ) : Type 0 where
  pub need : x.need v ≡ false
  pub tested : x.tested v ≡ None
  pub freed : deals_by Dealing.Frees i ≡ false → is_test x i ≡ false → x.freed v ≡ false
  pub made : is_call_of Intrinsic.CoroBegin i ≡ false → x.waits block ≡ None → x.made v ≡ false
  pub passed : x.frees block ≡ None → x.passed v ≡ false

-- A name that is set is one of the function, and that of an answer where it is asked for. It isn't that of a block that
-- is held.
pub record SetsPlain (f : Function) (x : Shape) (block at : ℕ) (i : Instr) (v : ℕ) : Type 0 where
  pub low : v < length f.names
  pub need : is_call_of Intrinsic.CoroAlloc i ≡ false → x.need v ≡ false
  pub freed : is_call_of Intrinsic.CoroFree i ≡ false → x.freed v ≡ false
  pub tested : is_test x i ≡ false → x.tested v ≡ None
  pub kept : (name : ℕ) → x.holds block at ≡ Some name → name ≢ v

-- ---- a function

-- intrinsics that stand in coroutines alone
abbrev pub is_own : Intrinsic → Bool
is_own Intrinsic.CoroId = true
is_own Intrinsic.CoroSizeI32 = true
is_own Intrinsic.CoroSizeI64 = true
is_own Intrinsic.CoroAlignI32 = true
is_own Intrinsic.CoroAlignI64 = true
is_own Intrinsic.CoroAlloc = true
is_own Intrinsic.CoroBegin = true
is_own Intrinsic.CoroFree = true
is_own Intrinsic.CoroFrame = true
is_own Intrinsic.CoroSave = true
is_own Intrinsic.CoroSuspend = true
is_own Intrinsic.CoroEnd = true
is_own _ = false

-- an alloca is small, and aligned to a number that is an alignment
pub record IsSmallAlloca (e : Elision) (ty : Ty) (align : ℕ) : Type 0 where
  pub small : size_of e.code ty < 2 ^ 64
  pub aligned : is_alignment align ≡ true

-- what the instructions of a function keep
pub record KeepsInstrs (e : Elision) (func : ℕ) : Type 0 where
  -- what no path leads to may read anything
  pub takes : (block at v : ℕ) (i : Instr) → IsReachedBlock (function_in e func) (0 ∷ []) [] block
      → slice_get (instrs_of (function_in e func) block) at ≡ Some i
      → IsTrue (reads v i) → ReadsPlain (e.shape func) block i v
  pub sets : (block at v : ℕ) (i : Instr) → slice_get (instrs_of (function_in e func) block) at ≡ Some i
      → result_of i ≡ Some v → SetsPlain (function_in e func) (e.shape func) block at i v
  pub steady : (block at : ℕ) (i : Instr) → slice_get (instrs_of (function_in e func) block) at ≡ Some i
      → HasSteadyIndices e.code i
  pub bytes : (block at : ℕ) (i : Instr) → slice_get (instrs_of (function_in e func) block) at ≡ Some i
      → HasBytes (AtInstr i)
  pub allocas : (block at name align : ℕ) (ty : Ty)
      → slice_get (instrs_of (function_in e func) block) at ≡ Some (Instr.Alloca name ty align)
      → IsSmallAlloca e ty align
  pub own : (block at : ℕ) (result : Option ℕ) (must_tail : Bool) (ty : Option Ty) (j : Intrinsic) (args : List Arg)
      → slice_get (instrs_of (function_in e func) block) at
      ≡ Some (Instr.Call result must_tail ty (Callee.Intrinsic j) args)
      → is_own j ≡ true → (function_in e func).coroutine ≡ true

-- ---- shapes

-- A coroutine whose calls may give its frame asks for it, and what coro.alloc, coro.free give has the names that the
-- shape tells. No more blocks allocate.
pub record HasShape (e : Elision) (func : ℕ) : Type 0 where
  pub coroutine : (function_in e func).coroutine ≡ true
  pub asks : AsksForFrame (function_in e func) (e.shape func)
  pub waits : (block other : ℕ) → (e.shape func).waits block ≡ Some other → block ≡ asks.allocates
  pub need : (block at v : ℕ) (i : Instr) → slice_get (instrs_of (function_in e func) block) at ≡ Some i
      → is_call_of Intrinsic.CoroAlloc i ≡ true → result_of i ≡ Some v → (e.shape func).need v ≡ true
  pub freed : (block at v : ℕ) (i : Instr) → slice_get (instrs_of (function_in e func) block) at ≡ Some i
      → is_call_of Intrinsic.CoroFree i ≡ true → result_of i ≡ Some v → (e.shape func).freed v ≡ true
  pub begun : (block at : ℕ) (i : Instr) → slice_get (instrs_of (function_in e func) block) at ≡ Some i
      → is_call_of Intrinsic.CoroBegin i ≡ true → (block ≡ asks.begins) × (at ≡ asks.begin)
  pub small : frame_size e func < 2 ^ 64
  -- the blocks in which the two runs stand apart have no phis, and what is asked is no test
  pub bare : phis_at (function_in e func) asks.allocates ≡ []
  pub empty : phis_at (function_in e func) asks.after ≡ []
  pub empty_beside : phis_at (function_in e func) asks.beside ≡ []
  pub untested : (e.shape func).tested asks.need ≡ None

-- ---- calls that give an alloca

pub record IsGivingCall (e : Elision) (name : Name) (args : List Arg) : Type 0 where
  pub func : ℕ
  pub named : function_named e.code name ≡ Some func
  pub given : given_ramp e.code (noalloc_of name) ≡ Some func
  pub starts : StartsAlike e func
  pub fits : length args ≡ length (function_in e func).params
  pub shape : HasShape e func

-- ---- returns

-- a name in which no activation whose frame was given differs
pub record IsQuiet (x : Shape) (v : ℕ) : Type 0 where
  pub need : x.need v ≡ false
  pub made : x.made v ≡ false
  pub freed : x.freed v ≡ false
  pub tested : x.tested v ≡ None
  pub passed : x.passed v ≡ false

abbrev pub IsQuietOperand : Shape → Operand → Type 0
IsQuietOperand x a = (v : ℕ) → a ≡ Operand.Local v → IsQuiet x v

pub record ReturnsPlain (x : Shape) (block at : ℕ) (value : Option Arg) : Type 0 where
  pub held : x.holds block at ≡ None
  pub reads : (arg : Arg) → value ≡ Some arg → IsQuietOperand x arg.value

-- ---- the module

pub record KeepsPlaces (e : Elision) : Type 0 where
  pub instrs : (func : ℕ) → KeepsInstrs e func
  -- a coroutine has the shape of none whose calls give a frame, or its own one; it is woken alike
  pub shapes : (func : ℕ) → (e.shape func ≡ no_shape) ⊎ HasShape e func
  pub wakes : (func : ℕ) → (function_in e func).coroutine ≡ true → WakesAlike e func
  -- no call of the framed run gives a frame
  pub ungiven : GivesNoFrames e.code
  -- functions that are no coroutines have no saves, and destroy the handles of their sites
  pub plain : (func : ℕ) → (function_in e func).coroutine ≡ false
      → points_where (is_call_of Intrinsic.CoroSave) (function_in e func) ≡ []
  pub destroyed : (func : ℕ) → DestroysHandles e func
  pub marks : (func : ℕ) → MarksOwn (function_in e func)
  pub fronts : (func : ℕ) → Each IsAligned (allocas_ahead (rooms e func) (function_in e func))
  -- promises lie at small offsets
  pub promises : (x : Instance) (distance : ℕ) → promise_offset (framed e) x ≡ Some distance → distance < 2 ^ 64
  pub calls : (func block at size align : ℕ) (result : Option ℕ) (must_tail : Bool) (ty : Option Ty) (name : Name)
      (args : List Arg)
      → slice_get (instrs_of (function_in e func) block) at
      ≡ Some (Instr.Call result must_tail ty (Callee.Named name) args)
      → room_at (rooms e func) (function_in e func) block at (Instr.Call result must_tail ty (Callee.Named name) args)
      ≡ Some (GivenFrame.Alloca size align)
      → IsGivingCall e name args
  -- no block is held at the end of a block that returns, and no answer is returned
  pub returned : (func block : ℕ) (value : Option Arg)
      → fetch (function_in e func) block (length (instrs_of (function_in e func) block)) ≡ AtTerm (Terminator.Ret value)
      → ReturnsPlain (e.shape func) block (length (instrs_of (function_in e func) block)) value
