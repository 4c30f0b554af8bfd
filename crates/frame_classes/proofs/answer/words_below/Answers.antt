use Rattle.frame_classes.proofs.Deciding.{at_most, one_chunk_more}
use Rattle.frame_classes.proofs.answer.words_below.Goals as goal

pub chunk_word-requires-clause-count : goal.chunk_word-requires-clause-count
chunk_word-requires-clause-count c = at_most c.loop-chunk.chunk c.args.slots.now c.chunk_of.result.now c.chunk_of.ensures

pub loop-chunk-preserved : goal.loop-chunk-preserved
loop-chunk-preserved c =
    one_chunk_more c.args.function.now c.args.slots.now c.loop-chunk.chunk c.loop-chunk.words c.push.new.self c.chunk_of.result.now c.in_ok-chunk_word.field-0
    c.loop-chunk.invariant c.chunk_of.ensures c.in_ok-chunk_word.ensures c.in_ok-push.ensures.ok
