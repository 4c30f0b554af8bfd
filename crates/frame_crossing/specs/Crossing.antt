-- Which values cross which suspends.
use Rattle.std.specs.Prelude.{ℕ, List, [], ◌+◌, ◌∷◌, ◌++◌}
use Rattle.flow_solver.specs.Paths.{IsListed}
use Rattle.ir_model.specs.declared.module.Function.{Function}
use Rattle.ir_model.specs.declared.operand.Intrinsic.{Intrinsic}
use Rattle.ir_paths.specs.Windows.{is_call_of, points_where}
use Rattle.ir_paths.specs.declared.point.Point.{Point}
use Rattle.frame_crossing.specs.Paths.{IsDefinedBefore, IsNeededBehind}
use Rattle.frame_crossing.specs.Values.{values_of}

-- v, which is neither a token nor an alloca's, begin's or coro.frame's, is defined, then the suspend comes, then from its
-- resume or destroy edge on a use, with neither a definition of v nor the end block between that edge and the use
pub record Crosses (f : Function) (v : ℕ) (s : Point) : Type 0 where
  pub is_value : IsListed v (values_of f)
  pub defined : IsDefinedBefore f v s.block s.at
  pub needed : IsNeededBehind f v s

-- the suspends of a function, in order of the text
abbrev pub suspends_of : Function → List Point
suspends_of f = points_where (is_call_of Intrinsic.CoroSuspend) f

-- The value with each suspend that it crosses of these, which are numbered from a position on.
pub data AreCrossed (f : Function) (v : ℕ) : ℕ → List Point → List (ℕ × ℕ) → Type 0 where
  NoMore : (k : ℕ) → AreCrossed f v k [] []
  Taken : (k : ℕ) (s : Point) (ss : List Point) (all : List (ℕ × ℕ)) → Crosses f v s → AreCrossed f v (k + 1) ss all → AreCrossed f v k (s ∷ ss) ((v, k) ∷ all)
  LeftOut : (k : ℕ) (s : Point) (ss : List Point) (all : List (ℕ × ℕ)) → (Crosses f v s → ⊥) → AreCrossed f v (k + 1) ss all → AreCrossed f v k (s ∷ ss) all

-- Each of these values with the suspends that it crosses, one after the other.
pub data CrossedBy (f : Function) : List ℕ → List (ℕ × ℕ) → Type 0 where
  Nothing : CrossedBy f [] []
  More : (v : ℕ) (vs : List ℕ) (here rest : List (ℕ × ℕ)) → AreCrossed f v 0 (suspends_of f) here → CrossedBy f vs rest → CrossedBy f (v ∷ vs) (here ++ rest)

-- exactly the values that cross suspends, each with these: values in order of the text, and of each its suspends in order of
-- the text
abbrev pub AreCrossing : Function → List (ℕ × ℕ) → Type 0
AreCrossing f all = CrossedBy f (values_of f) all
