use Rattle.std.proofs.Common.{◌*◌, ◌∙◌, subst, ℕ, [], ap, sym, take, arith}
use Rattle.frame_crossing.specs.Crossing.{CrossedBy}
use Rattle.frame_crossing.specs.Values.{distinct}
use Rattle.frame_crossing.specs.Words.{AreNumbered}
use Rattle.frame_crossing.proofs.Crossed.{all_crossed, none_crossed}
use Rattle.frame_crossing.proofs.FarValues.{all_are_crossed, far_are_values}
use Rattle.frame_crossing.proofs.answer.crossing.Goals as goal

pub loop-chunk-init : goal.loop-chunk-init
loop-chunk-init c = subst (CrossedBy c.args.function.now (take 0 c.in_ok-all.all.values)) (sym c.new-pairs.ensures) (none_crossed c.args.function.now c.in_ok-all.all.values)

pub push_chunk-requires-clause-chunk : goal.push_chunk-requires-clause-chunk
push_chunk-requires-clause-chunk c = let lt = c.chunks_of-chunk-end.ensures.needed c.loop-chunk.chunk c.loop-chunk-test.true in let len = c.len-2.ensures in omega (arith, lt, len)

pub push_chunk-requires-clause-values : goal.push_chunk-requires-clause-values
push_chunk-requires-clause-values c = far_are_values c.args.function.now c.in_ok-known.known.numbers c.in_ok-known.known.values c.in_ok-all.all.values c.in_ok-plan.plan.phis
    (c.in_ok-known.ensures.values ∙ ap (distinct []) (c.as_slice.ensures.value ∙ c.in_ok-defined.ensures)) c.in_ok-all.ensures.values

pub returns : goal.returns
returns c =
    let all = c.chunks_of-chunk-end.ensures.all in
    let len = c.len-2.ensures in
    let test = c.loop-chunk-test.false in
    all_are_crossed c.args.function.now c.in_ok-known.known.numbers c.in_ok-known.known.values c.in_ok-all.all.values c.in_ok-plan.plan.phis c.loop-chunk.pairs
    (subst (λ (n : ℕ). AreNumbered n c.in_ok-known.known.numbers c.in_ok-known.known.values) c.len.ensures c.in_ok-known.ensures.numbers)
    (c.in_ok-known.ensures.values ∙ ap (distinct []) (c.as_slice.ensures.value ∙ c.in_ok-defined.ensures)) c.in_ok-plan.ensures.phis c.in_ok-all.ensures.values
    (all_crossed c.args.function.now c.in_ok-all.all.values c.loop-chunk.pairs (c.loop-chunk.chunk * 64) (omega (arith, all, len, test)) c.loop-chunk.invariant)
