use Rattle.std.proofs.Common.{◌≡◌, ◌++◌, drop}
use Rattle.flow_points.specs.ir_paths.Windows.{points_in}
use Rattle.rule_windows.proofs.points.push_in.Given as goal

abbrev pub invariant-loop-block : goal.invariant-loop-block
invariant-loop-block g l = l.all ++ points_in (g.T.InstrTest.instr_passes l.test) l.at (drop l.block-index l.blocks) ≡ l.initial.all ++ points_in (g.T.InstrTest.instr_passes l.test) 0 l.blocks
