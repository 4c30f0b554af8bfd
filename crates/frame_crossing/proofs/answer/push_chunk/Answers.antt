use Rattle.std.proofs.Common.{◌*◌, ◌∙◌, ap, arith, refl}
use Rattle.frame_crossing.specs.Words.{marked_from}
use Rattle.frame_crossing.proofs.Crossed.{more_crossed}
use Rattle.frame_crossing.proofs.answer.push_chunk.Goals as goal

pub loop-number-preserved : goal.loop-number-preserved
loop-number-preserved c =
    let at_most = c.chunk_end-number-end.ensures.at_most in
    let test = c.loop-number-test.true in
    let from = c.loop-number.invariant.0 in
    let within = c.chunk_end-number-end.ensures.within in (
      omega (arith, from),
      more_crossed c.args.function.now c.args.all.now.numbers c.args.all.now.values c.as_slice-values.result.now c.in_ok-words.words.items c.in_ok-found.found.items c.as_slice-in-loop-number.result.now c.loop-number.pairs c.push_pairs.new.all c.args.chunk (c.args.chunk * 64) c.loop-number.number
          c.requires.numbers c.requires.values c.in_ok-words.ensures c.as_slice-values.ensures refl from (omega (arith, at_most, test)) (omega (arith, within, test))
          (c.in_ok-found.ensures ∙ ap (marked_from 0) c.as_slice.ensures.value) c.as_slice-in-loop-number.ensures.value c.in_ok-push_pairs.ensures c.loop-number.invariant.1,
    )
