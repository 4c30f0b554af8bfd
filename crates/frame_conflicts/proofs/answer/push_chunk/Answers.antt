use Rattle.std.proofs.Common.{◌≡◌, ◌+◌, ◌*◌, sym, subst, length, arith}
use Rattle.std.specs.Prelude.{min}
use Rattle.frame_conflicts.proofs.Chunks.{chunk_spots}
use Rattle.frame_conflicts.proofs.Order.{rows_so_far}
use Rattle.frame_conflicts.proofs.Places.{chunk_ends, same_chunk}
use Rattle.frame_conflicts.specs.Conflicts.{ConflictAt}
use Rattle.frame_conflicts.specs.Known.{AreMetFor}
use Rattle.frame_conflicts.proofs.answer.push_chunk.Goals as goal

pub overflow_mul-start : goal.overflow_mul-start
overflow_mul-start c = omega arith

pub all_meetings-requires : goal.all_meetings-requires
all_meetings-requires c = chunk_spots c.args.function.now c.requires.known.looked c.args.known.now.chunks c.args.chunk c.requires.known.are_chunks

pub push_slot-requires-clause-met : goal.push_slot-requires-clause-met
push_slot-requires-clause-met c =
    let low = c.loop-one.invariant.0 in
    let test = c.loop-one-test.true in
    let most = c.chunk_end-one-end.ensures.at_most in
    subst (λ a. AreMetFor c.args.known.now.chunks a (length c.args.known.now.chunks) c.in_ok-met.met) (sym (same_chunk c.args.chunk c.loop-one.one (omega (arith, low)) (omega (arith, test, most)))) c.in_ok-met.ensures

pub returns : goal.returns
returns c =
    let within = c.chunk_end-one-end.ensures.within in
    let most = c.chunk_end-one-end.ensures.at_most in
    let whole = c.chunk_end-one-end.ensures.whole in
    rows_so_far (ConflictAt c.args.function.now) c.loop-one.one (min (c.args.chunk * 64 + 64) c.args.known.now.count) c.loop-one.pairs (chunk_ends (c.args.chunk * 64) c.args.known.now.count c.chunk_end-one-end.result c.loop-one.one within most whole (omega arith)) c.loop-one.invariant.1
