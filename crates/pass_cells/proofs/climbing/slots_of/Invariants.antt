use Rattle.std.proofs.Common.{◌≡◌, ◌++◌, drop, map}
use Rattle.pass_cells.specs.Links.{slot_by}
use Rattle.pass_cells.proofs.climbing.slots_of.Given as goal

abbrev pub invariant-loop-root : goal.invariant-loop-root
invariant-loop-root l = l.all ++ map (slot_by l.local) (drop l.root-index l.root-items) ≡ map (slot_by l.local) l.root-items
