use Rattle.std.proofs.Common.{◌≡◌, drop}
use Rattle.rule_shape.specs.Uses.{counted_phis}
use Rattle.rule_shape.proofs.uses.Uses.add_phis.Given as goal

abbrev pub invariant-loop-phi : goal.invariant-loop-phi
invariant-loop-phi l = counted_phis l.self (drop l.phi-index l.phis) ≡ counted_phis l.initial.self l.phis
