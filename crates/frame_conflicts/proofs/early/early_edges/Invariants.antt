use Rattle.std.proofs.Common.{◌≡◌, drop}
use Rattle.frame_conflicts.specs.Early.{early_edges}
use Rattle.frame_conflicts.proofs.early.early_edges.Given as goal

abbrev pub invariant-loop-edge : goal.invariant-loop-edge
invariant-loop-edge l = early_edges l.function l.before l.word (drop l.edge-index l.edges) ≡ early_edges l.function l.before l.first l.edges
