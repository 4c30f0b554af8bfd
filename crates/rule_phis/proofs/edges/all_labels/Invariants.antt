use Rattle.std.proofs.Common.{◌≡◌, drop}
use Rattle.std.specs.List.{list_all}
use Rattle.rule_phis.specs.Edges.{has, incoming_labels}
use Rattle.rule_phis.proofs.edges.all_labels.Given as goal

abbrev pub invariant-loop-number : goal.invariant-loop-number
invariant-loop-number l = list_all (has (incoming_labels l.incoming)) l.numbers ≡ list_all (has (incoming_labels l.incoming)) (drop l.number-index l.numbers)
