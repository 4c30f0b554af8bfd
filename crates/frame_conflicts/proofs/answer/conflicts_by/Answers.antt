use Rattle.std.proofs.Common.{◌≡◌, ◌+◌, ◌*◌, ◌<◌, length, arith}
use Rattle.std.specs.Prelude.{min}
use Rattle.std.proofs.lemmas.Option.{slice_get_within}
use Rattle.ir_paths.specs.Slots.{allocas_of}
use Rattle.frame_conflicts.proofs.Order.{all_pairs, rows_so_far}
use Rattle.frame_conflicts.specs.Conflicts.{ConflictAt}
use Rattle.frame_conflicts.proofs.answer.conflicts_by.Goals as goal

pub push_chunk-requires-clause-pairs : goal.push_chunk-requires-clause-pairs
push_chunk-requires-clause-pairs c =
    let lt = c.chunks_of-chunk-end.ensures.needed c.loop-chunk.chunk c.loop-chunk-test.true in
    rows_so_far (ConflictAt c.args.function.now) (min (c.loop-chunk.chunk * 64) c.in_ok-known.known.count) (c.loop-chunk.chunk * 64) c.loop-chunk.pairs (omega (arith, lt)) c.loop-chunk.invariant

pub returns : goal.returns
returns c =
    let all = c.chunks_of-chunk-end.ensures.all in
    let past = c.loop-chunk-test.false in
    all_pairs (ConflictAt c.args.function.now) c.in_ok-known.known.count c.loop-chunk.pairs
    (λ a b h.
    let lt = slice_get_within (allocas_of c.args.function.now) a h.one h.is_one.stands in
    let count = c.in_ok-known.ensures.is_count in
    omega (arith, lt, count))
    (rows_so_far (ConflictAt c.args.function.now) (min (c.loop-chunk.chunk * 64) c.in_ok-known.known.count) c.in_ok-known.known.count c.loop-chunk.pairs (omega (arith, all, past)) c.loop-chunk.invariant)
