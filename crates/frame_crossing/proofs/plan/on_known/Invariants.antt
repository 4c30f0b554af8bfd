use Rattle.std.proofs.Common.{◌≡◌, ◌++◌, drop, filter}
use Rattle.frame_crossing.specs.EdgeUses.{is_edge}
use Rattle.frame_crossing.proofs.plan.on_known.Given as goal

abbrev pub invariant-loop-one : goal.invariant-loop-one
invariant-loop-one l = l.all ++ filter (is_edge l.known) (drop l.one-index l.uses) ≡ filter (is_edge l.known) l.uses
