use Rattle.frame_classes.proofs.Deciding.{chunk_told, of_ok}
use Rattle.frame_classes.proofs.answer.chunk_word.Goals as goal

pub returns : goal.returns
returns c =
    of_ok c.frame_word.result _ _
    (λ word is. chunk_told c.args.function.now c.args.plan.now c.requires.plan c.args.slots.now c.in_ok-chunk.chunk c.in_ok-chunk.ensures word is)
    c.frame_word.ensures
