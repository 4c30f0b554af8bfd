use Rattle.std.proofs.Common.{◌≡◌, ◌++◌, drop}
use Rattle.rule_window_values.specs.Words.{starts_of}
use Rattle.rule_window_values.proofs.words.starts.Given as goal

abbrev pub invariant-loop-span : goal.invariant-loop-span
invariant-loop-span l = l.all.items ++ starts_of l.numbers l.chunk (drop l.span-index l.spans) ≡ starts_of l.numbers l.chunk l.spans
