-- The blocks in which a coroutine asks for its frame and frees it, and how they are entered.
use Rattle.std.specs.Prelude.{◌≡◌, ◌≢◌, ◌⊎◌, ℕ, Bool, length, if◌then◌else◌}
use Rattle.pass_elide_edges.specs.Keeping.{HasEdge}
use Rattle.pass_elide_edges.specs.pass_elide_proof.Places.{instrs_of}
use Rattle.pass_elide_edges.specs.pass_elide_proof.Shapes.{JumpsTo}
use Rattle.pass_elide_edges.specs.pass_elide_proof.pass_proofs.ir_model.Names.{position_of}
use Rattle.pass_elide_edges.specs.pass_elide_proof.pass_proofs.ir_model.declared.instr.Terminator.{Terminator}
use Rattle.pass_elide_edges.specs.pass_elide_proof.pass_proofs.ir_model.declared.module.Function.{Function}
use Rattle.pass_elide_edges.specs.pass_elide_proof.pass_proofs.ir_model.declared.operand.Operand.{Operand}
use Rattle.pass_elide_edges.specs.pass_elide_proof.pass_proofs.run_step.Step.{AtTerm, fetch}

-- their positions, and the labels of the branch
pub record AskingBlocks : Type 0 where
  pub asks : ℕ
  pub allocates : ℕ
  pub after : ℕ
  pub beside : ℕ
  pub begins : ℕ
  pub one : ℕ
  pub other : ℕ

pub record AsksBlocks (f : Function) (a : AskingBlocks) : Type 0 where
  pub on : Operand
  pub branch : fetch f a.asks (length (instrs_of f a.asks)) ≡ AtTerm (Terminator.Branch on a.one a.other)
  pub to_allocator : position_of f a.one ≡ a.allocates
  pub to_beside : position_of f a.other ≡ a.beside
  pub jumps : JumpsTo f a.allocates a.after
  pub joins : JumpsTo f a.after a.begins
  pub meets : JumpsTo f a.beside a.begins
  -- they are apart
  pub apart_after : a.after ≢ a.allocates
  pub apart_beside : a.beside ≢ a.allocates
  pub apart_sides : a.beside ≢ a.after
  pub apart_begins : a.begins ≢ a.allocates
  pub apart_last : a.begins ≢ a.after
  -- they are entered over these edges alone
  pub into_allocates : (block label : ℕ) → HasEdge f block label → position_of f label ≡ a.allocates → block ≡ a.asks
  pub into_after : (block label : ℕ) → HasEdge f block label → position_of f label ≡ a.after → block ≡ a.allocates
  pub into_beside : (block label : ℕ) → HasEdge f block label → position_of f label ≡ a.beside → block ≡ a.asks
  pub into_begins : (block label : ℕ) → HasEdge f block label → position_of f label ≡ a.begins
      → (block ≡ a.after) ⊎ (block ≡ a.beside)

-- ---- where a frame is freed

-- where what coro.free gave is tested, where it is freed, and the blocks behind; the labels of the branch
pub record FreeingBlocks : Type 0 where
  pub tests : ℕ
  pub frees : ℕ
  pub after : ℕ
  pub beside : ℕ
  pub is_eq : Bool
  pub one : ℕ
  pub other : ℕ

-- behind both two blocks on edges lead to one block
pub record MeetsBlocks (f : Function) (q : FreeingBlocks) : Type 0 where
  pub apart : q.beside ≢ q.after
  pub ends : ℕ
  pub joins : JumpsTo f q.after ends
  pub meets : JumpsTo f q.beside ends
  pub into_freed : (block label : ℕ) → HasEdge f block label → position_of f label ≡ q.after → block ≡ q.frees
  pub into_tested : (block label : ℕ) → HasEdge f block label → position_of f label ≡ q.beside → block ≡ q.tests

pub record FreesBlocks (f : Function) (q : FreeingBlocks) : Type 0 where
  pub on : Operand
  pub branch : fetch f q.tests (length (instrs_of f q.tests)) ≡ AtTerm (Terminator.Branch on q.one q.other)
  pub to_free : position_of f (if q.is_eq then q.other else q.one) ≡ q.frees
  pub to_beside : position_of f (if q.is_eq then q.one else q.other) ≡ q.beside
  pub jumps : JumpsTo f q.frees q.after
  pub apart : q.beside ≢ q.frees
  pub into_frees : (block label : ℕ) → HasEdge f block label → position_of f label ≡ q.frees → block ≡ q.tests
  pub ways : (q.after ≡ q.beside) ⊎ MeetsBlocks f q
