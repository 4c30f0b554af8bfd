use Rattle.std.proofs.Common.{◌≡◌, drop}
use Rattle.rule_window_values.specs.Words.{told_phis}
use Rattle.rule_window_values.proofs.scan.told_phis.Given as goal

abbrev pub invariant-loop-phi : goal.invariant-loop-phi
invariant-loop-phi l = told_phis l.function l.numbers l.chunk l.told (drop l.phi-index l.phis) ≡ told_phis l.function l.numbers l.chunk l.first l.phis
