use Rattle.std.proofs.Common.{◌≡◌, length}
use Rattle.text_blocks.specs.Instrs.{wrap_flags, no_flags}
use Rattle.text_blocks.proofs.instrs.wrap_flags.Given as goal

abbrev pub invariant-loop-rest : goal.invariant-loop-rest
invariant-loop-rest l = wrap_flags l.symbols no_flags ≡ wrap_flags l.rest l.flags

abbrev pub decreases-loop-rest : goal.decreases-loop-rest
decreases-loop-rest l = length l.rest
