-- Paths from the entry, from resume edges and from destroy edges.
use Rattle.std.specs.Prelude.{ℕ, Bool, true, false, not, List, [], map, flat_map, length, slice_get, unwrap_or, Some, None, Option, IsTrue, IsFalse, ◌≡◌, ◌↔◌, ◌+◌, ◌<◌, ◌||◌, ◌∷◌, ◌==◌}
use Rattle.std.specs.Int.{bit_at}
use Rattle.std.specs.List.{list_any}
use Rattle.flow_blocks.specs.declared.kinds.EdgeKind.{EdgeKind}
use Rattle.elide_shape.specs.Edges.{edges_of}
use Rattle.elide_shape.specs.declared.edges.Edge.{Edge}
use Rattle.elide_sites.specs.declared.destroyed.Way.{Way}
use Rattle.flow_solver.specs.Paths.{IsListed}
use Rattle.ir_model.specs.declared.instr.Instr.{Instr}
use Rattle.ir_model.specs.declared.module.Block.{Block}
use Rattle.ir_model.specs.declared.module.Function.{Function}
use Rattle.ir_model.specs.declared.operand.Intrinsic.{Intrinsic}
use Rattle.ir_paths.specs.Windows.{end_block, is_call_of}

-- ---- what stands in blocks

abbrev pub is_free : Instr → Bool
is_free i = is_call_of Intrinsic.CoroFree i

abbrev pub is_stop : Instr → Bool
is_stop i = is_call_of Intrinsic.CoroSave i || is_call_of Intrinsic.CoroSuspend i

abbrev pub has_in : (Instr → Bool) → Option Block → Bool
has_in test None = false
has_in test (Some b) = list_any test b.instrs

-- in the block at a position stands an instruction that passes the test
abbrev pub has_at : (Instr → Bool) → Function → ℕ → Bool
has_at test f block = has_in test (slice_get f.blocks block)

-- ---- paths

-- A path leads to a block from one of the starts, over edges of the function that pass the test.
pub data IsLed (f : Function) (passes : Edge → Bool) (starts : List ℕ) : ℕ → Type 0 where
  Start : (b : ℕ) → IsListed b starts → IsLed f passes starts b
  Step : (e : Edge) → IsLed f passes starts e.from → IsListed e (edges_of f) → IsTrue (passes e) → IsLed f passes starts e.to

abbrev pub is_resume : EdgeKind → Bool
is_resume EdgeKind.Resume = true
is_resume _ = false

abbrev pub is_destroy : EdgeKind → Bool
is_destroy EdgeKind.Destroy = true
is_destroy _ = false

-- a path begins at the end of an edge of this kind
abbrev pub is_start : Way → EdgeKind → Bool
is_start Way.Calm k = is_resume k
is_start Way.Unfreed k = is_destroy k
is_start Way.Destroyed k = is_destroy k

abbrev pub target_if : Bool → Edge → List ℕ
target_if true e = e.to ∷ []
target_if false e = []

-- where the edges lead at which paths begin
abbrev pub targets_of : Way → List Edge → List ℕ
targets_of way es = flat_map (λ e. target_if (is_start way e.kind) e) es

-- the edges that a path may take, and where it starts: without a destroy edge from the entry or from a resume edge; from a
-- destroy edge without a free in a block that it leaves; from a destroy edge
abbrev pub passes : Way → Function → Edge → Bool
passes Way.Calm f e = not (is_destroy e.kind)
passes Way.Unfreed f e = not (has_at is_free f e.from)
passes Way.Destroyed f e = true

abbrev pub starts : Way → List Edge → List ℕ
starts Way.Calm es = 0 ∷ targets_of Way.Calm es
starts Way.Unfreed es = targets_of Way.Unfreed es
starts Way.Destroyed es = targets_of Way.Destroyed es

abbrev pub IsOn : Way → Function → ℕ → Type 0
IsOn way f b = IsLed f (passes way f) (starts way (edges_of f)) b

-- ---- the sentence

-- no coro.free is reachable from the entry or from a resume edge without passing a destroy edge; each path from a destroy
-- edge to the end block passes one, and none from a destroy edge meets a save or suspend
pub record FreesWhenDestroyed (f : Function) : Type 0 where
  pub calm : (b : ℕ) → IsOn Way.Calm f b → IsFalse (has_at is_free f b)
  pub freed : IsOn Way.Unfreed f (end_block f) → ⊥
  pub still : (b : ℕ) → IsOn Way.Destroyed f b → IsFalse (has_at is_stop f b)

-- ---- the same, by marks of blocks

abbrev pub mark_at : List Bool → ℕ → Bool
mark_at marks b = unwrap_or (slice_get marks b) false

abbrev pub marks_of : (Instr → Bool) → Function → List Bool
marks_of test f = map (λ b. list_any test b.instrs) f.blocks

abbrev pub passes_by : Way → List Bool → Edge → Bool
passes_by Way.Calm frees e = not (is_destroy e.kind)
passes_by Way.Unfreed frees e = not (mark_at frees e.from)
passes_by Way.Destroyed frees e = true

abbrev pub word_of : Bool → ℕ
word_of true = 1
word_of false = 0

abbrev pub is_odd : ℕ → Bool
is_odd w = bit_at w 0 == 1

-- no block has both marks
pub record AreApart (led marks : List Bool) : Type 0 where
  pub each : (b : ℕ) → slice_get led b ≡ Some true → mark_at marks b ≡ false

-- the same of the first blocks
pub record AreApartTo (count : ℕ) (led marks : List Bool) : Type 0 where
  pub each : (b : ℕ) → b < count → slice_get led b ≡ Some true → mark_at marks b ≡ false

-- for each block, and for the place behind the last, whether it is on the way
pub record AreOn (way : Way) (f : Function) (led : List Bool) : Type 0 where
  pub count : length led ≡ length f.blocks + 1
  pub each : (b : ℕ) (is : Bool) → slice_get led b ≡ Some is → IsTrue is ↔ IsOn way f b
