use Rattle.std.proofs.Common.{◌≡◌, drop}
use Rattle.frame_classes.specs.Ways.{ways_word}
use Rattle.frame_classes.proofs.ways.ways_word.Given as goal

abbrev pub invariant-loop-edge : goal.invariant-loop-edge
invariant-loop-edge l = ways_word l.ways l.own l.word (drop l.edge-index l.edges) ≡ ways_word l.ways l.own l.first l.edges
