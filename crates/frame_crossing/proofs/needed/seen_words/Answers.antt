use Rattle.std.proofs.Common.{◌∙◌, ap, ◌++◌, List, ℕ}
use Rattle.rule_uses.proofs.flow_blocks.Making.{graph_has_nodes}
use Rattle.frame_crossing.specs.Words.{made_starts}
use Rattle.frame_crossing.proofs.ChunkWords.{made_within}
use Rattle.frame_crossing.proofs.needed.seen_words.Goals as goal

pub reached-requires-clause-edges : goal.reached-requires-clause-edges
reached-requires-clause-edges c = graph_has_nodes c.args.function.now c.args.plan.now.graph c.requires.graph

pub reached-requires-clause-starts : goal.reached-requires-clause-starts
reached-requires-clause-starts c = made_within c.args.function.now c.args.plan.now.graph c.params_word-params.result c.args.made.now c.as_slice-edges.result.now c.as_slice-2.result.now c.requires.graph c.as_slice-edges.ensures
    (c.as_slice-2.ensures.value ∙ c.in_ok-push_made.ensures ∙ ap (λ (l : List (ℕ × ℕ)). l ++ made_starts c.args.made.now c.as_slice-edges.result.now) c.in_ok-starts.ensures.items)
