use Rattle.std.proofs.Common.{◌≡◌, length}
use Rattle.text_blocks.specs.Terminators.{begins_case, case_at}
use Rattle.text_reader.specs.Many.{after, many_at}
use Rattle.text_blocks.proofs.loops.cases_of.Given as goal

abbrev pub invariant-loop-alloc : goal.invariant-loop-alloc
invariant-loop-alloc l = many_at begins_case case_at l.fn.names l.fn.symbols ≡ after l.all (many_at begins_case case_at l.names l.rest)

abbrev pub decreases-loop-alloc : goal.decreases-loop-alloc
decreases-loop-alloc l = length l.rest
