use Rattle.std.proofs.Common.{take}
use Rattle.rule_window_values.specs.Spans.{AddsNumbers}
use Rattle.rule_window_values.proofs.numbers.add_numbers.Given as goal

abbrev pub invariant-loop-value : goal.invariant-loop-value
invariant-loop-value l = AddsNumbers l.names l.initial.all.numbers l.all.numbers l.initial.all.values l.all.values (take l.value-index l.values)
