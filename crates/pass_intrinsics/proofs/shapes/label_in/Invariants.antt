use Rattle.std.proofs.Common.{◌≡◌, ◌++◌, ◌∷◌, drop, take, map, filter, length, ◌-◌, ◌+◌}
use Rattle.ir_paths.specs.Windows.{label_in}
use Rattle.pass_intrinsics.proofs.shapes.label_in.Given as goal

abbrev pub invariant-loop-case : goal.invariant-loop-case
invariant-loop-case l = label_in l.number l.cases l.default ≡ label_in l.number (drop l.case-index l.cases) l.default
