use Rattle.std.proofs.Common.{◌*◌, ◌≤◌, ◌≡◌, sym, subst, drop, length, arith}
use Rattle.std.specs.Prelude.{take}
use Rattle.frame_conflicts.proofs.Chunks.{more_chunks}
use Rattle.frame_conflicts.proofs.Places.{short_chunk}
use Rattle.frame_conflicts.proofs.facts.all_chunks.Goals as goal

pub chunk_facts-requires-clause-slots : goal.chunk_facts-requires-clause-slots
chunk_facts-requires-clause-slots c = subst (λ l. length l ≤ 64) (sym c.chunk_of-here.ensures) (short_chunk (drop (64 * c.loop-chunk.chunk) c.args.slots.now) 64)

pub loop-chunk-preserved : goal.loop-chunk-preserved
loop-chunk-preserved c = more_chunks c.args.function.now c.args.looked.now c.loop-chunk.chunks c.push.new.self c.in_ok-facts.facts c.loop-chunk.chunk c.chunk_of-here.result.now c.args.slots.now c.in_ok-push.ensures.ok c.loop-chunk.invariant.0 c.requires.slots c.chunk_of-here.ensures c.in_ok-facts.ensures c.loop-chunk.invariant.1
