use Rattle.std.proofs.Common.{◌*◌, ◌≤◌, sym, subst, drop, length}
use Rattle.frame_conflicts.proofs.Places.{short_chunk}
use Rattle.frame_conflicts.proofs.suspended.push_chunk.Goals as goal

pub suspend_words-requires-clause-slots : goal.suspend_words-requires-clause-slots
suspend_words-requires-clause-slots c = subst (λ l. length l ≤ 64) (sym c.chunk_of-here.ensures) (short_chunk (drop (64 * c.args.chunk) c.args.slots.now) 64)
