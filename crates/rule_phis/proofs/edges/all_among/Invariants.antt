use Rattle.std.proofs.Common.{◌≡◌, drop}
use Rattle.std.specs.List.{list_all}
use Rattle.rule_phis.specs.Edges.{has, incoming_labels}
use Rattle.rule_phis.proofs.edges.all_among.Given as goal

abbrev pub invariant-loop-one : goal.invariant-loop-one
invariant-loop-one l = list_all (has l.numbers) (incoming_labels l.incoming) ≡ list_all (has l.numbers) (incoming_labels (drop l.one-index l.incoming))
