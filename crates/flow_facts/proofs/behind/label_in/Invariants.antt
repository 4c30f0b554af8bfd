use Rattle.std.proofs.Common.{◌≡◌, drop}
use Rattle.flow_points.specs.ir_paths.Windows.{label_in}
use Rattle.flow_facts.proofs.behind.label_in.Given as goal

abbrev pub invariant-loop-case : goal.invariant-loop-case
invariant-loop-case l = label_in l.number l.cases l.default ≡ label_in l.number (drop l.case-index l.cases) l.default
