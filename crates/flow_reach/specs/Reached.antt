-- The points to which paths of questions lead.
use Rattle.std.specs.Prelude.{◌≡◌, ◌⊎◌, ◌↔◌, ◌+◌, ◌<◌, ◌≤◌, ℕ, List, [], map, length, slice_get, unwrap_or, Some, IsTrue, IsFalse}
use Rattle.flow_bits.specs.Bits.{HasBit}
use Rattle.flow_solver.specs.Paths.{IsListed}
use Rattle.ir_model.specs.declared.module.Block.{Block}
use Rattle.ir_model.specs.declared.module.Function.{Function}
use Rattle.ir_paths.specs.Paths.{Leads, has_point, nexts}
use Rattle.ir_paths.specs.declared.point.Point.{Point}
use Rattle.flow_reach.specs.declared.question.Pass.{Pass}
use Rattle.flow_reach.specs.declared.question.Passes.{Passes}

-- ---- the points of a function

-- an instruction of a block, or its terminator
pub record IsPointOf (f : Function) (p : Point) : Type 0 where
  pub block : Block
  pub is_block : slice_get f.blocks p.block ≡ Some block
  pub within : p.at ≤ length block.instrs

abbrev pub front : ℕ → Point
front block = record { block = block; at = 0 }

-- a row for each block, as long as its instructions and one
abbrev pub HaveShape : {X : Type 0} → Function → List (List X) → Type 0
HaveShape f rows = map length rows ≡ map (λ b. length b.instrs + 1) f.blocks

-- blocks of the function, or the position behind the last
abbrev pub AreBlocks : Function → List (ℕ × ℕ) → Type 0
AreBlocks f fronts = (block word : ℕ) → IsListed (block, word) fronts → block < length f.blocks + 1

-- ---- what stands at a point

abbrev pub row_of : {X : Type 0} → List (List X) → ℕ → List X
row_of rows block = unwrap_or (slice_get rows block) []

abbrev pub pass_at : List (List Pass) → Point → Pass
pass_at rows p = unwrap_or (slice_get (row_of rows p.block) p.at) (record { stops = 0; begins = 0 })

abbrev pub stops_at : List (List Pass) → Point → ℕ
stops_at rows p = (pass_at rows p).stops

abbrev pub begins_at : List (List Pass) → Point → ℕ
begins_at rows p = (pass_at rows p).begins

abbrev pub word_at_point : List (List ℕ) → Point → ℕ
word_at_point words p = unwrap_or (slice_get (row_of words p.block) p.at) 0

-- ---- paths

-- A path of the question c leads to the point: it begins in front of a block, or behind a point, and goes on behind points that don't stop it and aren't of the closed block.
pub data IsReached (f : Function) (passes : Passes) (c : ℕ) : Point → Type 0 where
  AtFront : (block word : ℕ) → IsListed (block, word) passes.fronts → HasBit word c → IsReached f passes c (front block)
  Behind : (p q : Point) → HasBit (begins_at passes.rows p) c → IsTrue (has_point (nexts f p) q) → IsReached f passes c q
  On : (p q : Point) → IsReached f passes c p → (HasBit (stops_at passes.rows p) c → ⊥) → (p.block ≡ passes.closed → ⊥) → IsTrue (has_point (nexts f p) q) → IsReached f passes c q

-- a row of words for each block, with a word for each point that has the bits of the questions whose paths lead there
pub record AreReachedAt (f : Function) (passes : Passes) (words : List (List ℕ)) : Type 0 where
  pub shape : HaveShape f words
  pub each : (p : Point) (c : ℕ) → IsPointOf f p → c < 64 → HasBit (word_at_point words p) c ↔ IsReached f passes c p

-- ---- the same by points that are avoided

-- of the function's points just those are avoided that stop the question or are of the closed block
pub record AreAvoided (f : Function) (passes : Passes) (c : ℕ) (avoided : List Point) : Type 0 where
  pub each : (p : Point) → IsPointOf f p → IsTrue (has_point avoided p) ↔ (HasBit (stops_at passes.rows p) c ⊎ (p.block ≡ passes.closed))

-- from a point on, itself among them, a path comes to another, with none of these before it
abbrev pub ComesTo : Function → List Point → Point → Point → Type 0
ComesTo f avoided r q = (r ≡ q) ⊎ (IsFalse (has_point avoided r) × Leads f avoided r q)

-- a path leads to the point from one behind which the question begins, or comes from the front of a block where it does
pub data IsFrom (f : Function) (passes : Passes) (c : ℕ) (avoided : List Point) (q : Point) : Type 0 where
  FromBegin : (p : Point) → HasBit (begins_at passes.rows p) c → Leads f avoided p q → IsFrom f passes c avoided q
  FromFront : (block word : ℕ) → IsListed (block, word) passes.fronts → HasBit word c → ComesTo f avoided (front block) q → IsFrom f passes c avoided q
