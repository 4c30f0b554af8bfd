use Rattle.std.proofs.Common.{◌≡◌, drop}
use Rattle.ir_paths.specs.Paths.{has_point}
use Rattle.run_source_tables.proofs.points.has_point.Given as goal

abbrev pub invariant-loop-q : goal.invariant-loop-q
invariant-loop-q l = has_point l.points l.p ≡ has_point (drop l.q-index l.points) l.p
