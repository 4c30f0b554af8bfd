use Rattle.flow_blocks.proofs.Making.{graph_has_nodes}
use Rattle.rule_uses.proofs.words.reached_words.Goals as goal

pub reached-requires-clause-edges : goal.reached-requires-clause-edges
reached-requires-clause-edges c = graph_has_nodes c.args.function.now c.args.graph.now c.requires
