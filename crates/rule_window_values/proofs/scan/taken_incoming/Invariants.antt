use Rattle.std.proofs.Common.{◌≡◌, drop}
use Rattle.rule_window_values.specs.Words.{taken_incoming}
use Rattle.rule_window_values.proofs.scan.taken_incoming.Given as goal

abbrev pub invariant-loop-one : goal.invariant-loop-one
invariant-loop-one l = taken_incoming l.function l.numbers l.chunk l.block l.told (drop l.one-index l.incoming) ≡ taken_incoming l.function l.numbers l.chunk l.block l.first l.incoming
