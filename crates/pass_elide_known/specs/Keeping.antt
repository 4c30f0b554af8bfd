-- What the framed module keeps besides `KeepsPlaces`, so that each instruction's step is of a known kind.
use Rattle.std.specs.Prelude.{◌≡◌, ◌≢◌, ◌⊎◌, ◌<◌, ℕ, Bool, true, false, [], ◌∷◌, length, slice_get, Some, None}
use Rattle.elide_shape.specs.Calls.{deals_by}
use Rattle.elide_shape.specs.declared.calls.Dealing.{Dealing}
use Rattle.pass_elide_proof.specs.Edges.{IsNoAnswer, label_from, phis_at}
use Rattle.pass_elide_proof.specs.EdgesFreeing.{FreesFrame}
use Rattle.pass_elide_proof.specs.Elision.{Elision, Shape, framed, function_in}
use Rattle.pass_elide_proof.specs.NullTests.{AreWithNull}
use Rattle.pass_elide_proof.specs.Places.{instrs_of}
use Rattle.pass_elide_proof.specs.Releasing.{HoldsOfRooms, IsFreeing}
use Rattle.pass_elide_proof.specs.Shapes.{AreSameFetches, AsksForFrame}
use Rattle.pass_elide_proof.specs.Sound.{NestsNone}
use Rattle.pass_elide_proof.specs.pass_proofs.flow_blocks.Reach.{IsReached as IsReachedBlock}
use Rattle.pass_elide_proof.specs.pass_proofs.ir_base.declared.ops.Pred.{Pred}
use Rattle.pass_elide_proof.specs.pass_proofs.ir_model.Ty.{Ty, ptr}
use Rattle.pass_elide_proof.specs.pass_proofs.ir_model.declared.instr.Instr.{Instr}
use Rattle.pass_elide_proof.specs.pass_proofs.ir_model.declared.instr.Phi.{Phi}
use Rattle.pass_elide_proof.specs.pass_proofs.ir_model.declared.operand.Callee.{Callee}
use Rattle.pass_elide_proof.specs.pass_proofs.ir_model.declared.operand.Intrinsic.{Intrinsic}
use Rattle.pass_elide_proof.specs.pass_proofs.ir_model.declared.operand.Operand.{Operand}
use Rattle.pass_elide_proof.specs.pass_proofs.ir_parts.Contents.{result_of}
use Rattle.pass_elide_proof.specs.pass_proofs.ir_paths.Windows.{is_call_of}
use Rattle.pass_elide_proof.specs.pass_proofs.run_laws.changed.Changed.{Each}
use Rattle.pass_elide_proof.specs.pass_proofs.run_step.Step.{by_pred, incoming_from}

-- ---- ordinary instructions

-- an instruction that makes no block, calls no function and marks nothing
abbrev pub is_ordinary : Instr → Bool
is_ordinary (Instr.Call result must_tail ty (Callee.Intrinsic Intrinsic.MemcpyI64) args) = true
is_ordinary (Instr.Call result must_tail ty (Callee.Intrinsic Intrinsic.MemcpyI32) args) = true
is_ordinary (Instr.Call result must_tail ty callee args) = false
is_ordinary (Instr.Alloca name ty align) = false
is_ordinary _ = true

-- ---- the block that frees

-- an instruction that sets a name and does nothing else, but for tests
abbrev pub only_sets : Instr → Bool
only_sets (Instr.Binary name op flags ty a b) = true
only_sets (Instr.Select name x a b) = true
only_sets (Instr.Cast name op nneg arg to) = true
only_sets (Instr.Load name ty p align) = true
only_sets (Instr.Gep name inbounds ty base indices) = true
only_sets (Instr.Call result must_tail ty (Callee.Intrinsic Intrinsic.CoroSizeI32) args) = true
only_sets (Instr.Call result must_tail ty (Callee.Intrinsic Intrinsic.CoroSizeI64) args) = true
only_sets _ = false

-- Where a shape tells that a block frees, the function frees its frame there. In it stand sizes, fetches and the one
-- deallocation, if a path leads to it.
pub record KeepsFreeing (e : Elision) (func block : ℕ) : Type 0 where
  pub frees : FreesFrame (function_in e func) (e.shape func)
  pub here : block ≡ frees.frees
  pub instrs : IsReachedBlock (function_in e func) (0 ∷ []) [] block → (k : ℕ) (i : Instr)
      → slice_get (instrs_of (function_in e func) block) k ≡ Some i
      → (only_sets i ≡ true) ⊎ (deals_by Dealing.Frees i ≡ true)

-- ---- a test

-- What a shape calls a test compares with null what a coro.free gave. It says which answer null has.
pub record KeepsTest (e : Elision) (func name : ℕ) (pred : Pred) (ty : Ty) (a b : Operand) : Type 0 where
  pub pointers : ty ≡ ptr
  pub freed : ℕ
  pub is_freed : (e.shape func).freed freed ≡ true
  pub operands : AreWithNull freed a b
  pub tested : (e.shape func).tested name ≡ Some (by_pred pred true)

-- ---- blocks aside

-- no two instructions of a block give one name
abbrev pub GiveOnce : Elision → (func block : ℕ) → Type 0
GiveOnce e func block =
    (j k v : ℕ) (h i : Instr) → slice_get (instrs_of (function_in e func) block) j ≡ Some h
    → slice_get (instrs_of (function_in e func) block) k ≡ Some i → result_of h ≡ Some v → result_of i ≡ Some v → j ≡ k

-- each name that a block gives is one of what is made where a frame is freed
abbrev pub GivesPassed : Elision → (func block : ℕ) → Type 0
GivesPassed e func block =
    (k v : ℕ) (i : Instr) → slice_get (instrs_of (function_in e func) block) k ≡ Some i → result_of i ≡ Some v
    → (e.shape func).passed v ≡ true

-- the two blocks are those behind the allocator's block and beside it
pub record AreBehindAllocation (e : Elision) (func block other : ℕ) : Type 0 where
  pub asks : AsksForFrame (function_in e func) (e.shape func)
  pub after : block ≡ asks.after
  pub beside : other ≡ asks.beside

-- In a block and in the one aside of it stand as many fetches of the same. They are two blocks, in which no frame is
-- allocated or freed.
pub record KeepsAside (e : Elision) (func block other : ℕ) : Type 0 where
  pub apart : other ≢ block
  pub many : length (instrs_of (function_in e func) block) ≡ length (instrs_of (function_in e func) other)
  pub fetches : (k : ℕ) (i j : Instr) → slice_get (instrs_of (function_in e func) block) k ≡ Some i
      → slice_get (instrs_of (function_in e func) other) k ≡ Some j → AreSameFetches i j
  pub waits : (e.shape func).waits block ≡ None
  pub frees : (e.shape func).frees block ≡ None
  pub once : GiveOnce e func block
  pub once_too : GiveOnce e func other
  pub names : AreBehindAllocation e func block other ⊎ (GivesPassed e func block × GivesPassed e func other)

-- ---- phis behind suspends

-- an operand that a phi takes is no answer, and differs only where what the phi gives does
pub record TakesPlain (x : Shape) (name v : ℕ) : Type 0 where
  pub need : x.need v ≡ false
  pub freed : x.freed v ≡ false
  pub tested : x.tested v ≡ None
  pub made : x.made v ≡ true → x.made name ≡ true
  pub passed : x.passed v ≡ true → x.passed name ≡ true

-- a phi gives a name of its function that is no answer
pub record KeepsPhi (e : Elision) (func from : ℕ) (p : Phi) : Type 0 where
  pub low : p.result < length (function_in e func).names
  pub answers : IsNoAnswer (e.shape func) p.result
  pub takes : (v : ℕ) → incoming_from p.incoming from ≡ Operand.Local v → TakesPlain (e.shape func) p.result v

-- ---- a function's first instruction

-- a lifetime marker
abbrev pub is_marker : Instr → Bool
is_marker (Instr.Call result must_tail ty (Callee.Intrinsic Intrinsic.LifetimeStart) args) = true
is_marker (Instr.Call result must_tail ty (Callee.Intrinsic Intrinsic.LifetimeEnd) args) = true
is_marker _ = false

-- ---- the module

pub record KeepsMore (e : Elision) : Type 0 where
  pub freeing : (func block other : ℕ) → (e.shape func).frees block ≡ Some other → KeepsFreeing e func block
  pub tests : (func block at name : ℕ) (pred : Pred) (ty : Ty) (a b : Operand) (is_eq : Bool)
      → slice_get (instrs_of (function_in e func) block) at ≡ Some (Instr.Icmp name pred ty a b)
      → (e.shape func).tested name ≡ Some is_eq → KeepsTest e func name pred ty a b
  pub asides : (func block other : ℕ) → (e.shape func).aside block ≡ Some other → KeepsAside e func block other
  -- a phi behind a suspend takes what is alike, unless what it gives differs
  pub phis : (func block at to : ℕ) (i : Instr) → slice_get (instrs_of (function_in e func) block) at ≡ Some i
      → is_call_of Intrinsic.CoroSuspend i ≡ true
      → Each (KeepsPhi e func (label_from (function_in e func) block)) (phis_at (function_in e func) to)
  -- no function begins with a marker, which stands behind its alloca
  pub unmarked : (func : ℕ) (i : Instr) → slice_get (instrs_of (function_in e func) 0) 0 ≡ Some i
      → is_marker i ≡ false
  -- a coroutine whose calls give its frame hands what coro.free gives to a deallocator at once
  pub frees : HoldsOfRooms (IsFreeing e) e
  -- no frame has room for another one
  pub nests : NestsNone (framed e)
