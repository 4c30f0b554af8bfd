use Rattle.std.proofs.Common.{◌≡◌, ◌<◌, ◌^◌, drop}
use Rattle.text_symbols.specs.Numbers.{value_from, value_of}
use Rattle.text_symbols.proofs.numbers.value_of.Given as goal

abbrev pub invariant-loop-digit : goal.invariant-loop-digit
invariant-loop-digit l = (value_of l.digits ≡ value_from l.value (drop l.digit-index l.digits)) × (l.value < 2 ^ 64)
