use Rattle.std.proofs.Common.{◌≡◌, drop}
use Rattle.text_symbols.specs.Numbers.{are_digits}
use Rattle.text_symbols.proofs.numbers.are_digits.Given as goal

abbrev pub invariant-loop-b : goal.invariant-loop-b
invariant-loop-b l = are_digits l.bytes ≡ are_digits (drop l.b-index l.bytes)
