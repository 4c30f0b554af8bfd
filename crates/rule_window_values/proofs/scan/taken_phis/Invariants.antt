use Rattle.std.proofs.Common.{◌≡◌, drop}
use Rattle.rule_window_values.specs.Words.{taken_phis}
use Rattle.rule_window_values.proofs.scan.taken_phis.Given as goal

abbrev pub invariant-loop-phi : goal.invariant-loop-phi
invariant-loop-phi l = taken_phis l.function l.numbers l.chunk l.block l.told (drop l.phi-index l.phis) ≡ taken_phis l.function l.numbers l.chunk l.block l.first l.phis
