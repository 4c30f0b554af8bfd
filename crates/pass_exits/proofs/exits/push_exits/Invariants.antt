use Rattle.std.proofs.Common.{◌≡◌, ◌++◌, drop}
use Rattle.pass_exits.specs.Exits.{exits_to}
use Rattle.pass_exits.proofs.exits.push_exits.Given as goal

abbrev pub invariant-loop-label : goal.invariant-loop-label
invariant-loop-label l = l.all ++ exits_to l.function l.at l.from (drop l.label-index l.labels) ≡ l.initial.all ++ exits_to l.function l.at l.from l.labels
