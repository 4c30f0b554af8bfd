use Rattle.std.proofs.Common.{◌≡◌, drop}
use Rattle.frame_crossing.specs.OneWalk.{phis_made}
use Rattle.frame_crossing.proofs.walk.make_phis.Given as goal

abbrev pub invariant-loop-phi : goal.invariant-loop-phi
invariant-loop-phi l = phis_made l.mark l.made (drop l.phi-index l.phis) ≡ phis_made l.mark l.initial.made l.phis
