use Rattle.frame_classes.specs.Answer.{HaveFrameWords}
use Rattle.frame_classes.proofs.answer.words_below.Given as goal

abbrev pub invariant-loop-chunk : goal.invariant-loop-chunk
invariant-loop-chunk l = HaveFrameWords l.function l.slots l.chunk l.words
