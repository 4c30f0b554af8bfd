use Rattle.std.proofs.Common.{◌≡◌, drop}
use Rattle.std.specs.Prelude.{slice_get}
use Rattle.ir_paths.specs.Windows.{points_in}
use Rattle.run_source_tables.specs.Lookups.{sought}
use Rattle.run_source_tables.proofs.shape.first_point.Given as goal

abbrev pub invariant-loop-block : goal.invariant-loop-block
invariant-loop-block l = slice_get (points_in (λ i. sought l.what i) 0 l.blocks) 0 ≡ slice_get (points_in (λ i. sought l.what i) l.block (drop l.block l.blocks)) 0
