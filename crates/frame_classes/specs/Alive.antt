-- Where a slot may be alive.
use Rattle.std.specs.Prelude.{◌≡◌, ℕ, List, [], IsTrue, ◌++◌}
use Rattle.ir_model.specs.declared.module.Function.{Function}
use Rattle.ir_paths.specs.Paths.{Leads, has_point}
use Rattle.ir_paths.specs.declared.point.Point.{Point}
use Rattle.frame_slots.specs.Uses.{ends_of, starts_of}
use Rattle.frame_slots.specs.rule_windows.Points.{begins}

abbrev pub markers_of : Function → ℕ → List Point
markers_of f slot = starts_of f slot ++ ends_of f slot

-- a path leads to the point from begin, of a slot without markers, or from a start of the slot without an end of it between
pub data MayBeAlive (f : Function) (slot : ℕ) (p : Point) : Type 0 where
  Unmarked : (begin : Point) → markers_of f slot ≡ [] → IsTrue (has_point (begins f) begin) → Leads f [] begin p → MayBeAlive f slot p
  Started : (start : Point) → IsTrue (has_point (starts_of f slot) start) → Leads f (ends_of f slot) start p → MayBeAlive f slot p
