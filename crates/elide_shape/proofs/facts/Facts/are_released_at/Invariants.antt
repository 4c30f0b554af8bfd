use Rattle.std.proofs.Common.{◌≡◌, drop}
use Rattle.std.specs.List.{list_all}
use Rattle.elide_shape.specs.Frees.{is_released}
use Rattle.elide_shape.proofs.facts.Facts.are_released_at.Given as goal

abbrev pub invariant-loop-point : goal.invariant-loop-point
invariant-loop-point l = list_all (is_released l.self.function.now) (drop l.point-index l.points) ≡ list_all (is_released l.self.function.now) l.points
