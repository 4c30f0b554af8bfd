use Rattle.std.proofs.Common.{◌≡◌, ◌+◌, ◌*◌, ◌<◌, ◌∙◌, length, ap, arith}
use Rattle.std.specs.Prelude.{min}
use Rattle.std.proofs.lemmas.Option.{slice_get_within}
use Rattle.ir_paths.specs.Slots.{allocas_of}
use Rattle.frame_conflicts.proofs.Order.{all_pairs, rows_so_far}
use Rattle.frame_conflicts.specs.Conflicts.{AliveAt}
use Rattle.frame_conflicts.proofs.answer.alive_by.Goals as goal

pub push_chunk-requires-clause-pairs : goal.push_chunk-requires-clause-pairs
push_chunk-requires-clause-pairs c =
    let lt = c.chunks_of-chunk-end.ensures.needed c.loop-chunk.chunk c.loop-chunk-test.true in
    let len = c.len.ensures in
    let same = ap length c.in_ok-slots.ensures in
    rows_so_far (AliveAt c.args.function.now) (min (c.loop-chunk.chunk * 64) (length (allocas_of c.args.function.now))) (c.loop-chunk.chunk * 64) c.loop-chunk.pairs (omega (arith, lt, len, same)) c.loop-chunk.invariant

pub loop-chunk-preserved : goal.loop-chunk-preserved
loop-chunk-preserved c =
    let same = ap length (c.as_slice.ensures ∙ c.in_ok-slots.ensures) in
    rows_so_far (AliveAt c.args.function.now) (min (c.loop-chunk.chunk * 64 + 64) (length c.as_slice.result.now)) (min ((c.loop-chunk.chunk + 1) * 64) (length (allocas_of c.args.function.now))) c.push_chunk.new.pairs (omega (arith, same)) c.in_ok-push_chunk.ensures

pub returns : goal.returns
returns c =
    let all = c.chunks_of-chunk-end.ensures.all in
    let len = c.len.ensures in
    let same = ap length c.in_ok-slots.ensures in
    let past = c.loop-chunk-test.false in
    all_pairs (AliveAt c.args.function.now) (length (allocas_of c.args.function.now)) c.loop-chunk.pairs
    (λ a b h. slice_get_within (allocas_of c.args.function.now) a h.slot h.is_slot.stands)
    (rows_so_far (AliveAt c.args.function.now) (min (c.loop-chunk.chunk * 64) (length (allocas_of c.args.function.now))) (length (allocas_of c.args.function.now)) c.loop-chunk.pairs (omega (arith, all, len, same, past)) c.loop-chunk.invariant)
