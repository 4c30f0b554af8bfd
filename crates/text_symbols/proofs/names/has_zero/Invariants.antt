use Rattle.std.proofs.Common.{◌≡◌, drop}
use Rattle.text_symbols.specs.Names.{has_zero}
use Rattle.text_symbols.proofs.names.has_zero.Given as goal

abbrev pub invariant-loop-b : goal.invariant-loop-b
invariant-loop-b l = has_zero l.bytes ≡ has_zero (drop l.b-index l.bytes)
