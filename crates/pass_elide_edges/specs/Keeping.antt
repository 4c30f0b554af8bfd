-- What a framed module keeps at the ends of its blocks, so that what stands there tells what both runs do.
use Rattle.std.specs.Prelude.{◌≡◌, ◌≢◌, ◌<◌, ◌⊎◌, ℕ, Bool, false, [], ◌∷◌, filter, length, slice_get, Some, None, if◌then◌else◌}
use Rattle.pass_elide_proof.specs.Edges.{IsNoAnswer, chosen_by, label_from, phis_at}
use Rattle.pass_elide_proof.specs.EdgesFreeing.{FreesAside, FreesFrame}
use Rattle.pass_elide_proof.specs.Elision.{Elision, Shape, function_in, no_shape}
use Rattle.pass_elide_proof.specs.Places.{instrs_of}
use Rattle.pass_elide_proof.specs.Placing.{HasShape, IsQuiet, IsQuietOperand}
use Rattle.pass_elide_proof.specs.Shapes.{AsksForFrame}
use Rattle.pass_elide_proof.specs.pass_proofs.flow_blocks.Reach.{IsReached as IsReachedBlock}
use Rattle.pass_elide_proof.specs.pass_proofs.flow_solver.Paths.{IsListed}
use Rattle.pass_elide_proof.specs.pass_proofs.ir_model.Names.{position_of}
use Rattle.pass_elide_proof.specs.pass_proofs.ir_model.declared.instr.Instr.{Instr}
use Rattle.pass_elide_proof.specs.pass_proofs.ir_model.declared.instr.Phi.{Phi}
use Rattle.pass_elide_proof.specs.pass_proofs.ir_model.declared.instr.Terminator.{Terminator}
use Rattle.pass_elide_proof.specs.pass_proofs.ir_model.declared.module.Function.{Function}
use Rattle.pass_elide_proof.specs.pass_proofs.ir_model.declared.operand.Operand.{Operand}
use Rattle.pass_elide_proof.specs.pass_proofs.ir_parts.Contents.{result_of}
use Rattle.pass_elide_proof.specs.pass_proofs.ir_paths.Paths.{entry_point, targets}
use Rattle.pass_elide_proof.specs.pass_proofs.ir_paths.Windows.{leaves, windows_of}
use Rattle.pass_elide_proof.specs.pass_proofs.run_laws.changed.Changed.{Each}
use Rattle.pass_elide_proof.specs.pass_proofs.run_step.Step.{AtTerm, fetch, incoming_from}

-- ---- edges

-- what ends a block may lead to a label
pub record HasEdge (f : Function) (block label : ℕ) : Type 0 where
  pub term : Terminator
  pub stands : fetch f block (length (instrs_of f block)) ≡ AtTerm term
  pub leads : IsListed label (targets term)

-- from the end of a block to a label no window is left
abbrev pub LeavesNone : Function → (block label : ℕ) → Type 0
LeavesNone f block label =
    filter (leaves (record { block = block; at = length (instrs_of f block) }) (entry_point f label)) (windows_of f)
    ≡ []

-- ---- phis

-- a phi sets a name of the function, and that of no answer
pub record SetsKnown (f : Function) (x : Shape) (p : Phi) : Type 0 where
  pub known : p.result < length f.names
  pub answers : IsNoAnswer x p.result

-- A name that a phi takes from a block. It is made where a frame is allocated, or where one is freed, only if what the
-- phi sets is too. Behind such blocks it may be.
pub record TakesPlain (f : Function) (x : Shape) (k : AsksForFrame f x) (from : ℕ) (p : Phi) (v : ℕ) : Type 0 where
  pub need : x.need v ≡ false
  pub freed : x.freed v ≡ false
  pub tested : x.tested v ≡ None
  pub made : from ≢ k.after → from ≢ k.beside → x.made p.result ≡ false → x.made v ≡ false
  pub passed : ((q : FreesFrame f x) → FreesAside f x q.after q.beside → (from ≢ q.after) × (from ≢ q.beside))
      → x.passed p.result ≡ false → x.passed v ≡ false

-- the same operand from two blocks, which doesn't differ; or what the two load at the same position
pub data TakesSame (f : Function) (x : Shape) (one other : ℕ) : Operand → Operand → Type 0 where
  SameOperand : (o : Operand) → IsQuietOperand x o → TakesSame f x one other o o
  SameLoad : (k u v : ℕ) (i j : Instr) → slice_get (instrs_of f one) k ≡ Some i
      → slice_get (instrs_of f other) k ≡ Some j → result_of i ≡ Some u → result_of j ≡ Some v
      → TakesSame f x one other (Operand.Local u) (Operand.Local v)

-- a phi behind two blocks takes the same from both, unless what it sets differs
abbrev pub MeetsPlain : Function → Shape → (one other : ℕ) → (ℕ → Bool) → Phi → Type 0
MeetsPlain f x one other differs p =
    differs p.result ≡ false
    → TakesSame f x one other (incoming_from p.incoming (label_from f one))
    (incoming_from p.incoming (label_from f other))

-- ---- where a frame is asked for

-- one phi before begin takes the block behind the allocator's block
pub record TakesBlock (f : Function) (x : Shape) (k : AsksForFrame f x) : Type 0 where
  pub position : ℕ
  pub phi : Phi
  pub there : slice_get (phis_at f k.begins) position ≡ Some phi
  pub sets : phi.result ≡ k.memory
  pub takes : incoming_from phi.incoming (label_from f k.after) ≡ Operand.Local k.block
  pub once : (j : ℕ) (p : Phi) → slice_get (phis_at f k.begins) j ≡ Some p → p.result ≡ k.memory → j ≡ position

pub record KeepsAsking (f : Function) (x : Shape) (k : AsksForFrame f x) : Type 0 where
  -- the edges there leave no window
  pub stays_asks : LeavesNone f k.asks k.one
  pub stays_passes : LeavesNone f k.asks k.other
  pub stays_jumps : LeavesNone f k.allocates k.jumps.label
  pub stays_joins : LeavesNone f k.after k.joins.label
  pub stays_meets : LeavesNone f k.beside k.meets.label
  -- before begin both blocks on edges give the same, if a path leads there
  pub phis : IsReachedBlock f (0 ∷ []) [] k.after
      → Each (MeetsPlain f x k.after k.beside x.made) (phis_at f k.begins)
  pub block : TakesBlock f x k
  -- blocks on edges are entered over these alone
  pub into_after : (block label : ℕ) → HasEdge f block label → position_of f label ≡ k.after → block ≡ k.allocates
  pub into_begins : (block label : ℕ) → HasEdge f block label → position_of f label ≡ k.begins
      → (block ≡ k.after) ⊎ (block ≡ k.beside)
  -- the allocator's block frees nothing, and isn't behind a block that frees
  pub alone : x.aside k.allocates ≡ None
  pub unfreed : x.frees k.allocates ≡ None
  pub unfreed_behind : x.frees k.after ≡ None

-- ---- where a frame is freed

-- Behind the block that frees and beside it two blocks lead to one. Its phis take the same from both, if a path leads
-- there.
pub record MeetsBehind (f : Function) (x : Shape) (q : FreesFrame f x) : Type 0 where
  pub aside : FreesAside f x q.after q.beside
  pub stays_joins : LeavesNone f q.after aside.joins.label
  pub stays_meets : LeavesNone f q.beside aside.meets.label
  pub phis : IsReachedBlock f (0 ∷ []) [] q.after
      → Each (MeetsPlain f x q.after q.beside x.passed) (phis_at f aside.ends)

pub record KeepsFreeing (f : Function) (x : Shape) (q : FreesFrame f x) : Type 0 where
  -- no phis stand in these blocks
  pub bare : phis_at f q.frees ≡ []
  pub bare_after : phis_at f q.after ≡ []
  pub bare_beside : phis_at f q.beside ≡ []
  -- the edges there leave no window
  pub stays_tests : LeavesNone f q.tests (if q.is_eq then q.other else q.one)
  pub stays_passes : LeavesNone f q.tests (if q.is_eq then q.one else q.other)
  pub stays_jumps : LeavesNone f q.frees q.jumps.label
  -- it is the block beside that is entered behind it, or both have a block of their own
  pub ways : (q.after ≡ q.beside) ⊎ MeetsBehind f x q

-- the block frees
pub record FreesThere (f : Function) (x : Shape) (block : ℕ) : Type 0 where
  pub frame : FreesFrame f x
  pub keeps : KeepsFreeing f x frame
  pub frees : frame.frees ≡ block

-- the block is behind one that frees, and another one stands beside it
pub record MeetsThere (f : Function) (x : Shape) (block : ℕ) : Type 0 where
  pub frame : FreesFrame f x
  pub keeps : KeepsFreeing f x frame
  pub meets : MeetsBehind f x frame
  pub after : frame.after ≡ block

-- ---- terminators

-- A name at which a terminator looks doesn't differ. But what coro.alloc gave is asked at the end of one block, and a
-- test for null of what coro.free gave at that of others.
pub data LooksAt (f : Function) (x : Shape) (k : AsksForFrame f x) (block v : ℕ) : Type 0 where
  Plain : IsQuiet x v → LooksAt f x k block v
  Asked : block ≡ k.asks → x.freed v ≡ false → x.tested v ≡ None → x.passed v ≡ false → LooksAt f x k block v
  Tested : (q : FreesFrame f x) → KeepsFreeing f x q → block ≡ q.tests → LooksAt f x k block v

-- ---- functions

-- What ends the blocks of a coroutine whose calls may give its frame. Names are asked about where a path leads.
pub record KeepsShape (f : Function) (x : Shape) (k : AsksForFrame f x) : Type 0 where
  pub asking : KeepsAsking f x k
  pub looks : (block v : ℕ) (term : Terminator) → IsReachedBlock f (0 ∷ []) [] block
      → fetch f block (length (instrs_of f block)) ≡ AtTerm term
      → chosen_by term ≡ Operand.Local v → LooksAt f x k block v
  pub takes : (block label : ℕ) → IsReachedBlock f (0 ∷ []) [] block → HasEdge f block label
      → Each (λ (p : Phi). (v : ℕ) → incoming_from p.incoming (label_from f block) ≡ Operand.Local v
      → TakesPlain f x k block p v) (phis_at f (position_of f label))
  pub frees : (block tests : ℕ) → x.frees block ≡ Some tests → FreesThere f x block
  pub asides : (block other : ℕ) → x.aside block ≡ Some other → (block ≡ k.after) ⊎ MeetsThere f x block

-- a coroutine's shape, with what ends its blocks
pub record ShapesEnds (e : Elision) (func : ℕ) : Type 0 where
  pub shape : HasShape e func
  pub ends : KeepsShape (function_in e func) (e.shape func) shape.asks

-- ---- the module

pub record KeepsEnds (e : Elision) : Type 0 where
  pub phis : (func block : ℕ)
      → Each (SetsKnown (function_in e func) (e.shape func)) (phis_at (function_in e func) block)
  pub shapes : (func : ℕ) → (e.shape func ≡ no_shape) ⊎ ShapesEnds e func

-- ---- blocks of their own

-- What leads to blocks that one of two activations enters alone, as far as they are such blocks by the shape. No edge
-- leads to the entry block.
pub record EntersAlone (f : Function) (x : Shape) : Type 0 where
  pub entry : (block label : ℕ) → HasEdge f block label → position_of f label ≢ 0
  pub into_after : (k : AsksForFrame f x) (block label : ℕ) → HasEdge f block label → position_of f label ≡ k.after
      → block ≡ k.allocates
  pub into_beside : (k : AsksForFrame f x) (block label : ℕ) → HasEdge f block label → position_of f label ≡ k.beside
      → block ≡ k.asks
  pub into_freed : (q : FreesFrame f x) → FreesAside f x q.after q.beside → (block label : ℕ) → HasEdge f block label
      → position_of f label ≡ q.after → block ≡ q.frees
  pub into_tested : (q : FreesFrame f x) → FreesAside f x q.after q.beside → (block label : ℕ) → HasEdge f block label
      → position_of f label ≡ q.beside → block ≡ q.tests
  -- the block beside one that frees doesn't free, nor does the allocator's, beside which there is none
  pub unfreed : (q : FreesFrame f x) → FreesAside f x q.after q.beside → x.frees q.beside ≡ None
  pub allocates : (k : AsksForFrame f x) → (x.frees k.allocates ≡ None) × (x.aside k.allocates ≡ None)
