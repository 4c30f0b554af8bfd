use Rattle.std.proofs.Common.{◌≡◌, drop}
use Rattle.frame_classes.specs.Ways.{edges_word}
use Rattle.frame_classes.proofs.ways.edges_word.Given as goal

abbrev pub invariant-loop-edge : goal.invariant-loop-edge
invariant-loop-edge l = edges_word l.function l.rows l.word (drop l.edge-index l.edges) ≡ edges_word l.function l.rows l.first l.edges
