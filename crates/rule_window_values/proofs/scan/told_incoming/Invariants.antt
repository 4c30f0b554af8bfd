use Rattle.std.proofs.Common.{◌≡◌, drop}
use Rattle.rule_window_values.specs.Words.{told_incoming}
use Rattle.rule_window_values.proofs.scan.told_incoming.Given as goal

abbrev pub invariant-loop-one : goal.invariant-loop-one
invariant-loop-one l = told_incoming l.function l.numbers l.chunk l.told (drop l.one-index l.incoming) ≡ told_incoming l.function l.numbers l.chunk l.first l.incoming
