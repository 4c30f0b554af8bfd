use Rattle.std.proofs.Common.{take}
use Rattle.rule_window_values.specs.Spans.{AreNumbered}
use Rattle.rule_window_values.proofs.numbers.numbers_of.Given as goal

abbrev pub invariant-loop-span : goal.invariant-loop-span
invariant-loop-span l = AreNumbered l.names (take l.span-index l.spans) l.all.numbers l.all.values
