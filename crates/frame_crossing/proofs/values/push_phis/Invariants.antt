use Rattle.std.proofs.Common.{◌≡◌, ◌++◌, drop}
use Rattle.frame_crossing.specs.Values.{phis_defined}
use Rattle.frame_crossing.proofs.values.push_phis.Given as goal

abbrev pub invariant-loop-phi : goal.invariant-loop-phi
invariant-loop-phi l = l.all.items ++ phis_defined (drop l.phi-index l.phis) ≡ l.initial.all.items ++ phis_defined l.phis
