use Rattle.std.proofs.Common.{◌≡◌, [], ◌∷◌, length}
use Rattle.text_blocks.specs.Terminators.{begins_incoming, next_incoming_at}
use Rattle.text_reader.specs.Many.{after, many_at}
use Rattle.text_blocks.proofs.loops.incomings_behind.Given as goal

abbrev pub invariant-loop-alloc : goal.invariant-loop-alloc
invariant-loop-alloc l = after (l.fn.first ∷ []) (many_at begins_incoming next_incoming_at l.fn.names l.fn.symbols) ≡ after l.all (many_at begins_incoming next_incoming_at l.names l.rest)

abbrev pub decreases-loop-alloc : goal.decreases-loop-alloc
decreases-loop-alloc l = length l.rest
