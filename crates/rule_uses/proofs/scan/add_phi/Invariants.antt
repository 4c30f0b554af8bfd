use Rattle.std.proofs.Common.{◌≡◌, ◌++◌, drop}
use Rattle.rule_uses.specs.Scan.{open_incoming}
use Rattle.rule_uses.proofs.scan.add_phi.Given as goal

abbrev pub invariant-loop-one : goal.invariant-loop-one
invariant-loop-one l = l.opens.items ++ open_incoming l.function l.params l.place (drop l.one-index l.incoming) ≡ l.initial.opens.items ++ open_incoming l.function l.params l.place l.incoming
