-- The points at which it is looked who is alive with whom.
use Rattle.std.specs.Prelude.{◌≡◌, ◌≢◌, ◌<◌, ◌≤◌, ◌+◌, ◌&&◌, ◌++◌, ◌∷◌, ℕ, Bool, true, not, List, [], slice_get, Some, IsTrue, IsFalse, if◌then◌else◌, ◌==◌}
use Rattle.flow_solver.specs.Paths.{IsListed}
use Rattle.ir_model.specs.declared.instr.Instr.{Instr}
use Rattle.ir_model.specs.declared.module.Block.{Block}
use Rattle.ir_model.specs.declared.module.Function.{Function}
use Rattle.ir_model.specs.declared.operand.Intrinsic.{Intrinsic}
use Rattle.ir_paths.specs.Windows.{end_block, instr_at, is_call_of}
use Rattle.ir_paths.specs.declared.point.Point.{Point}
use Rattle.flow_points.specs.Rows.{is_marked}
use Rattle.frame_classes.specs.flow_reach.Reached.{IsPointOf}
use Rattle.frame_classes.specs.rule_windows.Sets.{IsAfterEnd}

-- a point of the function outside the end block and all that it reaches
pub record IsOutside (f : Function) (p : Point) : Type 0 where
  pub is_point : IsPointOf f p
  pub is_outside : p.block ≢ end_block f
  pub is_before_end : ¬ (IsAfterEnd f p)

-- one of the points stands before the point in its block, or is it, with no start between
pub record IsLookedBefore (f : Function) (points : List Point) (p : Point) : Type 0 where
  pub at : ℕ
  pub is_looked : IsListed (record { block = p.block; at = at }) points
  pub is_before : at ≤ p.at
  pub no_start : (k : ℕ) (i : Instr) → at ≤ k → k < p.at → instr_at f (record { block = p.block; at = k }) ≡ Some i → IsFalse (is_call_of Intrinsic.LifetimeStart i)

-- points outside the end, one of them before each other such point with no start between
pub record AreLooked (f : Function) (points : List Point) : Type 0 where
  pub are_outside : (p : Point) → IsListed p points → IsOutside f p
  pub are_enough : (p : Point) → IsOutside f p → IsLookedBefore f points p

-- ---- fronts of blocks, and points behind starts

abbrev pub point_if : Bool → Point → List Point
point_if b p = if b then p ∷ [] else []

abbrev pub looked_row : List (List Bool) → ℕ → ℕ → Bool → List Instr → List Point
looked_row after block at fresh [] = point_if (fresh && not (is_marked after (record { block = block; at = at }))) (record { block = block; at = at })
looked_row after block at fresh (i ∷ is) =
    point_if (fresh && not (is_marked after (record { block = block; at = at }))) (record { block = block; at = at })
    ++ looked_row after block (at + 1) (is_call_of Intrinsic.LifetimeStart i) is

abbrev pub block_looked : List (List Bool) → ℕ → ℕ → Block → List Point
block_looked after end at b = if at == end then [] else looked_row after at 0 true b.instrs

abbrev pub looked_blocks : List (List Bool) → ℕ → ℕ → List Block → List Point
looked_blocks after end at [] = []
looked_blocks after end at (b ∷ bs) = block_looked after end at b ++ looked_blocks after end (at + 1) bs
