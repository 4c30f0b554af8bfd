use Rattle.std.proofs.Common.{◌≡◌, ◌++◌, drop}
use Rattle.rule_uses.specs.Scan.{open_phis}
use Rattle.rule_uses.proofs.scan.add_phis.Given as goal

abbrev pub invariant-loop-phi : goal.invariant-loop-phi
invariant-loop-phi l = l.opens.items ++ open_phis l.function l.params l.func l.block l.at (drop l.phi-index l.phis) ≡ l.initial.opens.items ++ open_phis l.function l.params l.func l.block 0 l.phis
