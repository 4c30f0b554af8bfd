use Rattle.std.proofs.Common.{◌≡◌, ◌++◌, drop, map}
use Rattle.pass_cells.specs.Links.{further}
use Rattle.pass_cells.proofs.climbing.jumped.Given as goal

abbrev pub invariant-loop-to : goal.invariant-loop-to
invariant-loop-to l = l.all ++ map (further l.table) (drop l.to-index l.to-items) ≡ map (further l.table) l.to-items
