use Rattle.std.proofs.Common.{◌≡◌, ◌++◌, drop}
use Rattle.frame_classes.specs.Ways.{fronts_from}
use Rattle.frame_classes.proofs.ways.way_fronts.Given as goal

abbrev pub invariant-loop-way : goal.invariant-loop-way
invariant-loop-way l = l.all ++ fronts_from l.at (drop l.way-index l.ways) l.own ≡ fronts_from 0 l.ways l.own
