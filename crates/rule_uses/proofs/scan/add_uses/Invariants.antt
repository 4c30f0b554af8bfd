use Rattle.std.proofs.Common.{◌≡◌, ◌++◌, drop}
use Rattle.rule_uses.specs.Scan.{open_at}
use Rattle.rule_uses.proofs.scan.add_uses.Given as goal

abbrev pub invariant-loop-value : goal.invariant-loop-value
invariant-loop-value l = l.opens.items ++ open_at l.params l.last l.place l.block (drop l.value-index l.values) ≡ l.initial.opens.items ++ open_at l.params l.last l.place l.block l.values
