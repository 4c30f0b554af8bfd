use Rattle.std.proofs.Common.{length, refl}
use Rattle.frame_classes.proofs.Deciding.{all_chunks, of_ok}
use Rattle.frame_classes.proofs.answer.frame_words.Goals as goal

pub returns : goal.returns
returns c =
    of_ok c.words_below.result _ _
    (λ words have. all_chunks c.args.function.now c.args.slots.now (length c.args.slots.now) c.chunks_of.result words refl c.chunks_of.ensures have)
    c.words_below.ensures
