use Rattle.std.proofs.Common.{◌≡◌, drop}
use Rattle.pass_cells.specs.Kept.{rows_from}
use Rattle.pass_cells.proofs.keeping.push_pairs.Given as goal

abbrev pub invariant-loop-pair : goal.invariant-loop-pair
invariant-loop-pair l = rows_from l.places l.rows.items (drop l.pair-index l.crossing) ≡ rows_from l.places l.initial.rows.items l.crossing
