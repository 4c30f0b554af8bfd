use Rattle.std.proofs.Common.{◌≡◌, ◌++◌, drop}
use Rattle.frame_slots.specs.Words.{edge_words}
use Rattle.frame_slots.proofs.edges.edge_words.Given as goal

abbrev pub invariant-loop-one : goal.invariant-loop-one
invariant-loop-one l = l.all ++ edge_words l.words (drop l.one-index l.uses) ≡ edge_words l.words l.uses
