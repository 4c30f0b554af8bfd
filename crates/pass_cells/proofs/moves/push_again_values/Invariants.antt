use Rattle.std.proofs.Common.{◌≡◌, ◌++◌, drop}
use Rattle.pass_cells.specs.Moves.{after_again, again_values}
use Rattle.pass_cells.proofs.moves.push_again_values.Given as goal

abbrev pub invariant-loop-place : goal.invariant-loop-place
invariant-loop-place l = (l.all ++ again_values l.kept l.next (drop l.place-index l.places) ≡ l.initial.all ++ again_values l.kept l.first l.places) × (after_again l.next (drop l.place-index l.places) ≡ after_again l.first l.places)
