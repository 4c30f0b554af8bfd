use Rattle.std.proofs.Common.{◌≡◌, drop}
use Rattle.std.specs.List.{list_any}
use Rattle.rule_phis.specs.Edges.{differs}
use Rattle.rule_phis.proofs.edges.any_differs.Given as goal

abbrev pub invariant-loop-one : goal.invariant-loop-one
invariant-loop-one l = list_any (differs l.incoming) l.incoming ≡ list_any (differs l.incoming) (drop l.one-index l.incoming)
