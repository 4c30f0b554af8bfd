use Rattle.std.proofs.Common.{sym, subst, ◌∙◌}
use Rattle.flow_bits.proofs.Within.{edges_within, starts_within}
use Rattle.call_examples.proofs.reach.words.Goals as goal
use Rattle.flow_solver.specs.Paths.{HasNodes}

pub reached-requires-clause-edges : goal.reached-requires-clause-edges
reached-requires-clause-edges c = subst (HasNodes c.args.nodes) (sym (c.from_vec-edges.ensures ∙ c.in_ok-from_slice.ensures.items)) (edges_within c.args.nodes c.args.edges.now c.requires.edges)

pub reached-requires-clause-starts : goal.reached-requires-clause-starts
reached-requires-clause-starts c = starts_within c.args.nodes c.args.starts.now c.requires.starts
