use Rattle.std.proofs.Common.{◌≡◌, drop}
use Rattle.pass_cells.specs.Kept.{with_values}
use Rattle.pass_cells.proofs.keeping.keep_all.Given as goal

abbrev pub invariant-loop-pair : goal.invariant-loop-pair
invariant-loop-pair l = with_values l.keeping (drop l.pair-index l.crossing) ≡ with_values l.initial.keeping l.crossing
