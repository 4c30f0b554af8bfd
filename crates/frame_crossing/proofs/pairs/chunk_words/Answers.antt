use Rattle.std.proofs.Common.{◌∙◌, List, ℕ, ap, length, refl}
use Rattle.std.specs.Prelude.{slice_set}
use Rattle.rule_uses.proofs.flow_blocks.Making.{of_ok}
use Rattle.frame_crossing.proofs.ChunkWords.{chunk_told}
use Rattle.frame_crossing.proofs.pairs.chunk_words.Goals as goal

pub returns : goal.returns
returns c = of_ok c.crossing_words.result _ _
    (λ words is. chunk_told c.args.function.now c.args.plan.now c.args.all.now.numbers c.args.all.now.values c.args.chunk c.as_slice-blocks.result.now
    c.in_ok-made.made.items c.as_slice.result.now c.as_slice-2.result.now c.as_slice-3.result.now c.in_ok-seen.seen.items c.as_slice-5.result.now c.in_ok-needed.needed.items c.as_slice-7.result.now c.in_ok-own.own.items c.as_slice-6.result.now words.items c.as_slice-4.result.now (length c.as_slice-blocks.result.now)
    c.requires.plan c.requires.numbers c.as_slice-blocks.ensures c.in_ok-made.ensures c.as_slice.ensures.value c.in_ok-seen.ensures.nodes c.in_ok-seen.ensures.words
    (c.as_slice-2.ensures.value ∙ c.with_word-stops.ensures)
    (c.as_slice-3.ensures.value ∙ c.with_word-opens.ensures ∙ ap (λ (l : List ℕ). slice_set l c.args.plan.now.end 0) c.in_ok-open_words.ensures)
    c.in_ok-needed.ensures.nodes c.in_ok-needed.ensures.words
    refl c.as_slice-4.ensures c.in_ok-own.ensures c.as_slice-5.ensures.value c.as_slice-6.ensures.value c.as_slice-7.ensures.value is)
    c.crossing_words.ensures
