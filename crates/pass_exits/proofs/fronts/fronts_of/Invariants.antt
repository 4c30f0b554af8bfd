use Rattle.std.proofs.Common.{◌≡◌, ℕ, take}
use Rattle.std.specs.Prelude.{◌==◌}
use Rattle.std.specs.HashSet.{contains}
use Rattle.ir_paths.specs.Paths.{has_point}
use Rattle.pass_exits.specs.Exits.{front}
use Rattle.pass_exits.proofs.fronts.fronts_of.Given as goal

abbrev pub invariant-loop-point : goal.invariant-loop-point
invariant-loop-point l = (t : ℕ) → contains ◌==◌ l.fronts t ≡ has_point (take l.point-index l.inside) (front t)
