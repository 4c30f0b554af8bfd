use Rattle.std.proofs.Common.{◌∙◌, ap, ◌++◌, map, List, ℕ}
use Rattle.flow_blocks.proofs.Making.{graph_has_nodes}
use Rattle.flow_reach.specs.Rows.{made_start}
use Rattle.flow_reach.proofs.Telling.{starts_within}
use Rattle.flow_reach.proofs.reach.front_words.Goals as goal

pub reached-requires-clause-edges : goal.reached-requires-clause-edges
reached-requires-clause-edges c = graph_has_nodes c.args.function.now c.args.graph.now c.requires.graph

pub reached-requires-clause-starts : goal.reached-requires-clause-starts
reached-requires-clause-starts c = starts_within c.args.function.now c.args.graph.now c.args.fronts.now c.as_slice-edges.result.now c.as_slice.result.now c.args.made.now c.requires.graph c.requires.fronts c.as_slice-edges.ensures
    (c.as_slice.ensures.value ∙ c.in_ok-push_made.ensures ∙ ap (λ (l : List (ℕ × ℕ)). l ++ map (made_start c.args.made.now) c.as_slice-edges.result.now) c.in_ok-starts.ensures.items)
