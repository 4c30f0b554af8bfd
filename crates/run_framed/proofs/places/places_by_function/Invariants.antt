use Rattle.std.proofs.Common.{◌≤◌, length}
use Rattle.run_framed.proofs.LayoutPlaces.{HasPlaces}
use Rattle.run_framed.proofs.places.places_by_function.Given as goal

abbrev pub invariant-loop-at : goal.invariant-loop-at
invariant-loop-at l = record { within : l.at ≤ length l.layouts; places : HasPlaces l.layouts l.at l.table }

abbrev pub decreases-loop-at : goal.decreases-loop-at
decreases-loop-at l = l.at
