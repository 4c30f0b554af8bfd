use Rattle.std.proofs.Common.{◌≡◌, map, take}
use Rattle.elide_sites.specs.Destroyed.{passes_by, word_of}
use Rattle.elide_sites.proofs.destroyed.kept_words.Given as goal

abbrev pub invariant-loop-edge : goal.invariant-loop-edge
invariant-loop-edge l = l.words ≡ map (λ e. word_of (passes_by l.way l.frees e)) (take l.edge-index l.edges)
