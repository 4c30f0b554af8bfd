-- Where a coroutine of a framed form asks for its frame and frees it, by blocks and names, and the shape that tells
-- of it.
use Rattle.std.specs.Prelude.{◌≡◌, ◌≢◌, ◌⊎◌, ◌+◌, ℕ, Bool, true, false, not, nat_le, nat_lt, List, [], ◌∷◌, length, slice_get, Some, None, Option, ◌&&◌, ◌||◌, ◌==◌, if◌then◌else◌}
use Rattle.std.specs.List.{list_any}
use Rattle.elide_shape.specs.Calls.{deals_by}
use Rattle.elide_shape.specs.declared.calls.Dealing.{Dealing}
use Rattle.pass_elide_edges.specs.Keeping.{HasEdge}
use Rattle.pass_elide_known.specs.Keeping.{only_sets}
use Rattle.pass_elide_edges.specs.pass_elide_proof.Edges.{label_from, phis_at}
use Rattle.pass_elide_edges.specs.pass_elide_proof.Elision.{Elision, Shape, function_in, no_shape}
use Rattle.pass_elide_edges.specs.pass_elide_proof.NullTests.{AreWithNull}
use Rattle.pass_elide_edges.specs.pass_elide_proof.Places.{instrs_of}
use Rattle.pass_elide_edges.specs.pass_elide_proof.Releasing.{IsFreedSoon}
use Rattle.pass_elide_edges.specs.pass_elide_proof.Shapes.{AreSameFetches, IsAllocating, JumpsTo}
use Rattle.pass_elide_edges.specs.pass_elide_proof.pass_proofs.flow_blocks.Reach.{IsReached as IsReachedBlock}
use Rattle.pass_elide_edges.specs.pass_elide_proof.pass_proofs.flow_solver.Paths.{IsListed}
use Rattle.pass_elide_edges.specs.pass_elide_proof.pass_proofs.ir_base.declared.ops.Pred.{Pred}
use Rattle.pass_elide_edges.specs.pass_elide_proof.pass_proofs.ir_model.Names.{position_of}
use Rattle.pass_elide_edges.specs.pass_elide_proof.pass_proofs.ir_model.Ty.{Ty, ptr}
use Rattle.pass_elide_edges.specs.pass_elide_proof.pass_proofs.ir_model.declared.instr.Instr.{Instr}
use Rattle.pass_elide_edges.specs.pass_elide_proof.pass_proofs.ir_model.declared.instr.Phi.{Phi}
use Rattle.pass_elide_edges.specs.pass_elide_proof.pass_proofs.ir_model.declared.instr.Terminator.{Terminator}
use Rattle.pass_elide_edges.specs.pass_elide_proof.pass_proofs.ir_model.declared.module.Function.{Function}
use Rattle.pass_elide_edges.specs.pass_elide_proof.pass_proofs.ir_model.declared.operand.Arg.{Arg}
use Rattle.pass_elide_edges.specs.pass_elide_proof.pass_proofs.ir_model.declared.operand.Callee.{Callee}
use Rattle.pass_elide_edges.specs.pass_elide_proof.pass_proofs.ir_model.declared.operand.Intrinsic.{Intrinsic}
use Rattle.pass_elide_edges.specs.pass_elide_proof.pass_proofs.ir_model.declared.operand.Operand.{Operand}
use Rattle.pass_elide_edges.specs.pass_elide_proof.pass_proofs.ir_parts.Contents.{result_of}
use Rattle.pass_elide_edges.specs.pass_elide_proof.pass_proofs.ir_paths.Windows.{call_operand, call_result, is_call_of}
use Rattle.pass_elide_edges.specs.pass_elide_proof.pass_proofs.run_step.Step.{AtInstr, AtTerm, fetch, incoming_from}

-- ---- blocks and names

-- Where coro.alloc is asked, where the frame is allocated, the blocks on the edges to begin's block, and that. The
-- names of the answer, of the block and of begin's memory; the labels of the branch; where the allocator's call and
-- begin stand.
pub record Asking : Type 0 where
  pub asks : ℕ
  pub allocates : ℕ
  pub after : ℕ
  pub beside : ℕ
  pub begins : ℕ
  pub need : ℕ
  pub one : ℕ
  pub other : ℕ
  pub block : ℕ
  pub memory : ℕ
  pub allocation : ℕ
  pub begin : ℕ

-- Where what coro.free gave is tested for null, where it is freed, and the blocks behind; its name and that of the
-- test.
pub record Freeing : Type 0 where
  pub tests : ℕ
  pub frees : ℕ
  pub after : ℕ
  pub beside : ℕ
  pub tested : ℕ
  pub is_eq : Bool
  pub one : ℕ
  pub other : ℕ
  pub freed : ℕ
  pub release : ℕ

-- ---- the shape

abbrev pub is_name : ℕ → Option ℕ → Bool
is_name v None = false
is_name v (Some u) = v == u

-- an instruction of a block gives the name
abbrev pub gives_in : Function → ℕ → ℕ → Bool
gives_in f block v = list_any (λ (i : Instr). is_name v (result_of i)) (instrs_of f block)

-- a call of coro.free gives it
abbrev pub gives_freed : ℕ → Instr → Bool
gives_freed v i = is_call_of Intrinsic.CoroFree i && is_name v (result_of i)

abbrev pub frees_name : Function → ℕ → Bool
frees_name f v = list_any (λ b. list_any (gives_freed v) b.instrs) f.blocks

abbrev pub tests_of : List Freeing → ℕ → Option ℕ
tests_of [] b = None
tests_of (q ∷ qs) b = if q.frees == b then Some q.tests else tests_of qs b

-- two blocks on edges stand behind the block that frees and beside it
abbrev pub has_both : Freeing → Bool
has_both q = not (q.after == q.beside)

abbrev pub beside_of : List Freeing → ℕ → Option ℕ
beside_of [] b = None
beside_of (q ∷ qs) b = if (q.after == b) && has_both q then Some q.beside else beside_of qs b

abbrev pub tested_of : List Freeing → ℕ → Option Bool
tested_of [] v = None
tested_of (q ∷ qs) v = if q.tested == v then Some q.is_eq else tested_of qs v

abbrev pub passed_by : Function → Freeing → ℕ → Bool
passed_by f q v = gives_in f q.frees v || (has_both q && (gives_in f q.after v || gives_in f q.beside v))

abbrev pub passed_of : Function → List Freeing → ℕ → Bool
passed_of f [] v = false
passed_of f (q ∷ qs) v = passed_by f q v || passed_of f qs v

abbrev pub held_at : Asking → (block at : ℕ) → Option ℕ
held_at a b at =
    if b == a.allocates then (if nat_lt a.allocation at then Some a.block else None)
    else if b == a.after then Some a.block
    else if b == a.begins then (if nat_le at a.begin then Some a.memory else None)
    else None

abbrev pub made_of : Function → Asking → ℕ → Bool
made_of f a v = (v == a.memory) || (gives_in f a.allocates v || (gives_in f a.after v || gives_in f a.beside v))

abbrev pub shape_by : Function → Asking → List Freeing → Shape
shape_by f a qs =
    record {
      waits = λ b. if b == a.allocates then Some a.asks else None;
      frees = tests_of qs;
      aside = λ b. if b == a.after then Some a.beside else beside_of qs b;
      need = λ v. v == a.need;
      made = made_of f a;
      freed = frees_name f;
      tested = tested_of qs;
      passed = passed_of f qs;
      holds = held_at a;
    }

-- ---- what a function has there

-- a coroutine that asks for its frame so
pub record AsksSo (f : Function) (a : Asking) : Type 0 where
  pub branch : fetch f a.asks (length (instrs_of f a.asks))
      ≡ AtTerm (Terminator.Branch (Operand.Local a.need) a.one a.other)
  pub to_allocator : position_of f a.one ≡ a.allocates
  pub to_beside : position_of f a.other ≡ a.beside
  pub jumps : JumpsTo f a.allocates a.after
  pub joins : JumpsTo f a.after a.begins
  pub meets : JumpsTo f a.beside a.begins
  -- a path leads to the allocator's block where it has calls of coro.size, loads and the allocator's call alone
  pub instrs : IsReachedBlock f (0 ∷ []) [] a.allocates → (k : ℕ) (i : Instr)
      → slice_get (instrs_of f a.allocates) k ≡ Some i → IsAllocating i
  pub allocator : Instr
  pub there : slice_get (instrs_of f a.allocates) a.allocation ≡ Some allocator
  pub is_allocator : deals_by Dealing.Allocates allocator ≡ true
  pub once : (k : ℕ) (i : Instr) → slice_get (instrs_of f a.allocates) k ≡ Some i
      → deals_by Dealing.Allocates i ≡ true → k ≡ a.allocation
  pub given : call_result allocator ≡ Some a.block
  pub loads : (k : ℕ) (i j : Instr) → slice_get (instrs_of f a.after) k ≡ Some i
      → slice_get (instrs_of f a.beside) k ≡ Some j → AreSameFetches i j
  pub many : length (instrs_of f a.after) ≡ length (instrs_of f a.beside)
  pub start : Instr
  pub is_start : slice_get (instrs_of f a.begins) a.begin ≡ Some start
  pub is_begin : is_call_of Intrinsic.CoroBegin start ≡ true
  pub takes : call_operand start 1 ≡ Operand.Local a.memory
  -- a phi before begin takes the block behind the allocator's block
  pub position : ℕ
  pub phi : Phi
  pub is_phi : slice_get (phis_at f a.begins) position ≡ Some phi
  pub sets : phi.result ≡ a.memory
  pub takes_block : incoming_from phi.incoming (label_from f a.after) ≡ Operand.Local a.block
  -- each coro.alloc gives the answer
  pub question : ℕ
  pub asked : Instr
  pub is_asked : slice_get (instrs_of f a.asks) question ≡ Some asked
  pub is_question : is_call_of Intrinsic.CoroAlloc asked ≡ true
  pub answers : result_of asked ≡ Some a.need
  pub asks_once : (block at v : ℕ) (i : Instr) → slice_get (instrs_of f block) at ≡ Some i
      → is_call_of Intrinsic.CoroAlloc i ≡ true → result_of i ≡ Some v → v ≡ a.need
  -- blocks on edges have no phis, nor has the allocator's
  pub bare : phis_at f a.allocates ≡ []
  pub bare_after : phis_at f a.after ≡ []
  pub bare_beside : phis_at f a.beside ≡ []
  -- these blocks are apart
  pub apart_after : a.after ≢ a.allocates
  pub apart_beside : a.beside ≢ a.allocates
  pub apart_sides : a.beside ≢ a.after
  pub apart_begins : a.begins ≢ a.allocates
  pub apart_last : a.begins ≢ a.after
  -- they are entered over these edges alone
  pub into_allocates : (block label : ℕ) → HasEdge f block label → position_of f label ≡ a.allocates → block ≡ a.asks
  pub into_after : (block label : ℕ) → HasEdge f block label → position_of f label ≡ a.after → block ≡ a.allocates
  pub into_beside : (block label : ℕ) → HasEdge f block label → position_of f label ≡ a.beside → block ≡ a.asks
  pub into_begins : (block label : ℕ) → HasEdge f block label → position_of f label ≡ a.begins
      → (block ≡ a.after) ⊎ (block ≡ a.beside)

-- behind the block that frees and beside it two blocks on edges lead to one block
pub record MeetsSo (f : Function) (q : Freeing) : Type 0 where
  pub apart : q.beside ≢ q.after
  pub ends : ℕ
  pub joins : JumpsTo f q.after ends
  pub meets : JumpsTo f q.beside ends
  pub loads : (k : ℕ) (i j : Instr) → slice_get (instrs_of f q.after) k ≡ Some i
      → slice_get (instrs_of f q.beside) k ≡ Some j → AreSameFetches i j
  pub many : length (instrs_of f q.after) ≡ length (instrs_of f q.beside)
  pub into_freed : (block label : ℕ) → HasEdge f block label → position_of f label ≡ q.after → block ≡ q.frees
  pub into_tested : (block label : ℕ) → HasEdge f block label → position_of f label ≡ q.beside → block ≡ q.tests

-- a coroutine that frees its frame so
pub record FreesSo (f : Function) (q : Freeing) : Type 0 where
  pub branch : fetch f q.tests (length (instrs_of f q.tests))
      ≡ AtTerm (Terminator.Branch (Operand.Local q.tested) q.one q.other)
  pub to_free : position_of f (if q.is_eq then q.other else q.one) ≡ q.frees
  pub to_beside : position_of f (if q.is_eq then q.one else q.other) ≡ q.beside
  pub jumps : JumpsTo f q.frees q.after
  pub deallocator : Instr
  pub there : slice_get (instrs_of f q.frees) q.release ≡ Some deallocator
  pub is_deallocator : deals_by Dealing.Frees deallocator ≡ true
  pub once : (k : ℕ) (i : Instr) → slice_get (instrs_of f q.frees) k ≡ Some i
      → deals_by Dealing.Frees i ≡ true → k ≡ q.release
  pub takes : call_operand deallocator 0 ≡ Operand.Local q.freed
  -- a path leads there where it has sizes, fetches and that call alone
  pub instrs : IsReachedBlock f (0 ∷ []) [] q.frees → (k : ℕ) (i : Instr)
      → slice_get (instrs_of f q.frees) k ≡ Some i → (only_sets i ≡ true) ⊎ (deals_by Dealing.Frees i ≡ true)
  -- what coro.free gave is compared there
  pub free : ℕ
  pub freeing : Instr
  pub is_free : slice_get (instrs_of f q.tests) free ≡ Some freeing
  pub is_freeing : is_call_of Intrinsic.CoroFree freeing ≡ true
  pub gives : result_of freeing ≡ Some q.freed
  pub test : ℕ
  pub left : Operand
  pub right : Operand
  pub is_test : slice_get (instrs_of f q.tests) test
      ≡ Some (Instr.Icmp q.tested (if q.is_eq then Pred.Eq else Pred.Ne) ptr left right)
  pub with_null : AreWithNull q.freed left right
  -- no phis stand in these blocks, and no begin where it is freed
  pub bare : phis_at f q.frees ≡ []
  pub calm : (at : ℕ) (i : Instr) → slice_get (instrs_of f q.frees) at ≡ Some i
      → is_call_of Intrinsic.CoroBegin i ≡ false
  pub apart : q.beside ≢ q.frees
  pub into_frees : (block label : ℕ) → HasEdge f block label → position_of f label ≡ q.frees → block ≡ q.tests
  pub ways : (q.after ≡ q.beside) ⊎ MeetsSo f q

-- what a coro.free gives is handed to a deallocator soon
abbrev pub FreesSoon : Function → Type 0
FreesSoon f =
    (block at : ℕ) (result : Option ℕ) (must_tail : Bool) (ty : Option Ty) (args : List Arg)
    → fetch f block at ≡ AtInstr (Instr.Call result must_tail ty (Callee.Intrinsic Intrinsic.CoroFree) args)
    → (name : ℕ) × (result ≡ Some name) × IsFreedSoon f name None block (at + 1)

pub record HasForm (f : Function) (a : Asking) (qs : List Freeing) : Type 0 where
  pub coroutine : f.coroutine ≡ true
  pub asking : AsksSo f a
  pub freeing : (q : Freeing) → IsListed q qs → FreesSo f q
  pub soon : FreesSoon f

-- ---- of a module

-- a coroutine has the shape of such a form
pub record IsFormed (e : Elision) (func : ℕ) : Type 0 where
  pub asking : Asking
  pub freeing : List Freeing
  pub form : HasForm (function_in e func) asking freeing
  pub shape : e.shape func ≡ shape_by (function_in e func) asking freeing

-- each shape of a module is that of such a form, or of none
abbrev pub AreFormed : Elision → Type 0
AreFormed e = (func : ℕ) → (e.shape func ≡ no_shape) ⊎ IsFormed e func
