use Rattle.std.proofs.Common.{◌≡◌, ◌++◌, drop}
use Rattle.elide_sites.proofs.sites.push_all.Given as goal

abbrev pub invariant-loop-place : goal.invariant-loop-place
invariant-loop-place l = l.all ++ drop l.place-index l.places ≡ l.initial.all ++ l.places
