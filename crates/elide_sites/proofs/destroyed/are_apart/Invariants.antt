use Rattle.elide_sites.specs.Destroyed.{AreApartTo}
use Rattle.elide_sites.proofs.destroyed.are_apart.Given as goal

abbrev pub invariant-loop-at : goal.invariant-loop-at
invariant-loop-at l = AreApartTo l.at l.led l.marks
