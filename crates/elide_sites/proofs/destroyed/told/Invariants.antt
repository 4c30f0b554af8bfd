use Rattle.std.proofs.Common.{◌≡◌, map, take}
use Rattle.elide_sites.specs.Destroyed.{is_odd}
use Rattle.elide_sites.proofs.destroyed.told.Given as goal

abbrev pub invariant-loop-word : goal.invariant-loop-word
invariant-loop-word l = l.all ≡ map is_odd (take l.word-index l.words)
