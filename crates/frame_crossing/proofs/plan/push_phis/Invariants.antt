use Rattle.std.proofs.Common.{◌≡◌, ◌++◌, drop}
use Rattle.frame_crossing.specs.EdgeUses.{phis_uses}
use Rattle.frame_crossing.proofs.plan.push_phis.Given as goal

abbrev pub invariant-loop-phi : goal.invariant-loop-phi
invariant-loop-phi l = l.uses ++ phis_uses l.function l.to (drop l.phi-index l.phis) ≡ l.initial.uses ++ phis_uses l.function l.to l.phis
