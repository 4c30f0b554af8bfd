use Rattle.std.proofs.Common.{◌≡◌, ◌++◌, ◌∷◌, drop, take, map, filter, length, ◌-◌, ◌+◌}
use Rattle.pass_split.specs.Reached.{kept_phi}
use Rattle.pass_split.proofs.reached.kept_phis.Given as goal

abbrev pub invariant-loop-phi : goal.invariant-loop-phi
invariant-loop-phi l = l.all ++ map (kept_phi l.flags) (drop l.phi-index l.phis) ≡ map (kept_phi l.flags) l.phis
