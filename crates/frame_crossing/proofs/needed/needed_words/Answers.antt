use Rattle.std.proofs.Common.{◌∙◌, ap, ◌++◌, List, ℕ}
use Rattle.std.specs.Prelude.{reverse}
use Rattle.frame_crossing.specs.Words.{open_starts}
use Rattle.frame_crossing.proofs.ChunkWords.{back_has_nodes, needed_within}
use Rattle.frame_crossing.proofs.needed.needed_words.Goals as goal

pub reached-requires-clause-edges : goal.reached-requires-clause-edges
reached-requires-clause-edges c = back_has_nodes c.args.function.now c.args.plan.now.back c.requires.plan.back

pub reached-requires-clause-starts : goal.reached-requires-clause-starts
reached-requires-clause-starts c = needed_within c.args.function.now c.args.plan.now.back c.args.numbers.now c.args.chunk c.args.stops.now c.args.opens.now c.args.plan.now.uses c.as_slice-2.result.now c.as_slice-3.result.now c.push_open.new.starts.items
    c.requires.plan.back c.requires.opens c.requires.plan.uses c.as_slice-2.ensures
    (c.in_ok-push_open.ensures ∙ ap (λ (l : List (ℕ × ℕ)). l ++ open_starts 0 c.args.opens.now) c.new-starts.ensures.items)
    (c.as_slice-3.ensures.value ∙ c.reverse.ensures.items ∙ ap reverse c.in_ok-push_uses.ensures)
