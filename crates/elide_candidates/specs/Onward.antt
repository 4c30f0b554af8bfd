-- Paths that take no stop edge.
use Rattle.std.specs.Prelude.{ℕ, Bool, true, false, List, drop, length, slice_get, Some, None, Option, IsTrue, ◌&&◌}
use Rattle.std.specs.Prelude.{◌==◌, if◌then◌else◌}
use Rattle.flow_blocks.specs.Kinds.{kind_of}
use Rattle.flow_blocks.specs.declared.kinds.EdgeKind.{EdgeKind}
use Rattle.ir_model.specs.declared.module.Block.{Block}
use Rattle.ir_model.specs.declared.module.Function.{Function}
use Rattle.ir_paths.specs.Paths.{has_point, nexts}
use Rattle.ir_paths.specs.declared.point.Point.{Point}

abbrev pub is_stop_edge : EdgeKind → Bool
is_stop_edge EdgeKind.Stop = true
is_stop_edge _ = false

abbrev pub ends_with_suspend : Function → Point → Option Block → Bool
ends_with_suspend f p None = false
ends_with_suspend f p (Some b) = (p.at == length b.instrs) && is_stop_edge (kind_of f p.block 0)

-- where edges lead from a point: of a suspend's switch all but the first, which is the stop edge
abbrev pub onward : Function → Point → List Point
onward f p = if ends_with_suspend f p (slice_get f.blocks p.block) then drop 1 (nexts f p) else nexts f p

-- Such a path leads from the first point to the second, and at no point between it ends.
pub data GoesOn (f : Function) (Ends : Point → Type 0) (p : Point) : Point → Type 0 where
  Next : (q : Point) → IsTrue (has_point (onward f p) q) → GoesOn f Ends p q
  More : (v q : Point) → GoesOn f Ends p v → (Ends v → ⊥) → IsTrue (has_point (onward f v) q) → GoesOn f Ends p q
