use Rattle.std.proofs.Common.{◌≡◌, map, take}
use Rattle.elide_sites.proofs.destroyed.pairs_of.Given as goal

abbrev pub invariant-loop-edge : goal.invariant-loop-edge
invariant-loop-edge l = l.all ≡ map (λ e. (e.from, e.to)) (take l.edge-index l.edges)
