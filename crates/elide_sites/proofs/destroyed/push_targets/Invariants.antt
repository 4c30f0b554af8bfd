use Rattle.std.proofs.Common.{◌≡◌, ◌++◌, drop}
use Rattle.elide_sites.specs.Destroyed.{targets_of}
use Rattle.elide_sites.proofs.destroyed.push_targets.Given as goal

abbrev pub invariant-loop-edge : goal.invariant-loop-edge
invariant-loop-edge l = l.all ++ targets_of l.way (drop l.edge-index l.edges) ≡ l.initial.all ++ targets_of l.way l.edges
