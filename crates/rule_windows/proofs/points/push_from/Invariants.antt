use Rattle.std.proofs.Common.{◌≡◌, ◌++◌, drop}
use Rattle.flow_points.specs.ir_paths.Windows.{points_from}
use Rattle.rule_windows.proofs.points.push_from.Given as goal

abbrev pub invariant-loop-instr : goal.invariant-loop-instr
invariant-loop-instr g l = l.all ++ points_from (g.T.InstrTest.instr_passes l.test) l.block l.at (drop l.instr-index l.instrs) ≡ l.initial.all ++ points_from (g.T.InstrTest.instr_passes l.test) l.block 0 l.instrs
