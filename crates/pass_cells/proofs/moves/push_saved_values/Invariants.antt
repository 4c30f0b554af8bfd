use Rattle.std.proofs.Common.{◌≡◌, ◌++◌, drop}
use Rattle.pass_cells.specs.Moves.{after_saved, saved_values}
use Rattle.pass_cells.proofs.moves.push_saved_values.Given as goal

abbrev pub invariant-loop-place : goal.invariant-loop-place
invariant-loop-place l = (l.all ++ saved_values l.kept l.next (drop l.place-index l.places) ≡ l.initial.all ++ saved_values l.kept l.first l.places) × (after_saved l.next (drop l.place-index l.places) ≡ after_saved l.first l.places)
