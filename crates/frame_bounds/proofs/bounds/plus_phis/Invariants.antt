use Rattle.std.proofs.Common.{◌≡◌, ◌+◌, drop}
use Rattle.frame_bounds.specs.Bounds.{phis_bound}
use Rattle.frame_bounds.proofs.bounds.plus_phis.Given as goal

abbrev pub invariant-loop-phi : goal.invariant-loop-phi
invariant-loop-phi l = l.sum + phis_bound (drop l.phi-index l.phis) ≡ l.initial.sum + phis_bound l.phis
