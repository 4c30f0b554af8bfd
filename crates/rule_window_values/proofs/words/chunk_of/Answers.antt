use Rattle.std.proofs.Common.{ℕ, List, sym, subst, ◌∙◌}
use Rattle.flow_bits.specs.Reaching.{StartAt}
use Rattle.rule_uses.proofs.flow_blocks.Making.{graph_has_nodes}
use Rattle.flow_solver.specs.declared.graph.Graph.{Graph}
use Rattle.rule_window_values.proofs.Reaching.{starts_within}
use Rattle.rule_window_values.specs.Words.{starts_of}
use Rattle.rule_window_values.proofs.words.chunk_of.Goals as goal

pub reached-requires-clause-edges : goal.reached-requires-clause-edges
reached-requires-clause-edges c = graph_has_nodes c.args.function.now c.args.graph.now c.requires.graph

pub reached-requires-clause-starts : goal.reached-requires-clause-starts
reached-requires-clause-starts c =
    subst (λ (s : List (ℕ × ℕ)). StartAt c.args.graph.now.nodes s) (sym (c.as_slice-3.ensures.value ∙ c.in_ok-starts.ensures))
    (subst (λ (g : Graph). StartAt g.nodes (starts_of c.args.all.now.numbers c.args.number c.args.spans.now)) (sym c.requires.graph)
    (starts_within c.args.function.now c.args.all.now.numbers c.args.number c.args.spans.now c.requires.spans))
