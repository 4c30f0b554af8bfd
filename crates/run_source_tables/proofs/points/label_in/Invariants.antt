use Rattle.std.proofs.Common.{◌≡◌, drop}
use Rattle.ir_paths.specs.Windows.{label_in}
use Rattle.run_source_tables.proofs.points.label_in.Given as goal

abbrev pub invariant-loop-case : goal.invariant-loop-case
invariant-loop-case l = label_in l.n l.cases l.default ≡ label_in l.n (drop l.case-index l.cases) l.default
