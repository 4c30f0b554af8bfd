use Rattle.std.proofs.Common.{List, ℕ, length, sym, ◌∙◌, subst}
use Rattle.flow_blocks.proofs.Making.{answered, asked_within, graph_has_nodes, of_ok}
use Rattle.flow_blocks.specs.Words.{AreMarked, AreTold}
use Rattle.flow_blocks.proofs.reaching.found.Goals as goal

pub reached-requires-clause-edges : goal.reached-requires-clause-edges
reached-requires-clause-edges c = graph_has_nodes c.args.function.now c.in_ok-graph.graph c.in_ok-graph.ensures

pub reached-requires-clause-starts : goal.reached-requires-clause-starts
reached-requires-clause-starts c = asked_within c.args.function.now c.in_ok-graph.graph c.args.starts.now c.as_slice-3.result.now c.in_ok-graph.ensures (c.as_slice-3.ensures.value ∙ c.in_ok-asked.ensures) c.requires

pub returns : goal.returns
returns c = of_ok c.told.result _ _
    (λ blocks t. answered c.args.function.now c.in_ok-graph.graph c.args.starts.now c.args.avoiding.now c.as_slice-2.result.now c.as_slice.result.now c.as_slice-3.result.now c.as_slice-4.result.now c.in_ok-words.words.items blocks.items
    c.in_ok-graph.ensures
    (subst (AreMarked c.in_ok-graph.graph.nodes c.args.avoiding.now) (sym c.as_slice-2.ensures) c.in_ok-marks.ensures)
    c.as_slice.ensures (c.as_slice-4.ensures.value ∙ c.in_ok-kept.ensures) (c.as_slice-3.ensures.value ∙ c.in_ok-asked.ensures)
    c.in_ok-words.ensures.nodes c.in_ok-words.ensures.words
    (subst (λ (w : List ℕ). AreTold w (length c.args.function.now.blocks) blocks.items) c.as_slice-5.ensures.value (subst (λ (n : ℕ). AreTold c.as_slice-5.result.now n blocks.items) c.len.ensures t)))
    c.told.ensures
