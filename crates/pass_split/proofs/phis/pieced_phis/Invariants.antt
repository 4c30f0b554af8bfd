use Rattle.std.proofs.Common.{◌≡◌, ◌++◌, ◌∷◌, drop, take, map, filter, length, ◌-◌, ◌+◌}
use Rattle.pass_split.specs.Pieces.{pieced_phi}
use Rattle.pass_split.proofs.phis.pieced_phis.Given as goal

abbrev pub invariant-loop-phi : goal.invariant-loop-phi
invariant-loop-phi l = l.all ++ map (pieced_phi l.shape l.part l.origins l.label) (drop l.phi-index l.phis) ≡ map (pieced_phi l.shape l.part l.origins l.label) l.phis
