use Rattle.std.proofs.Common.{◌≡◌, ◌++◌}
use Rattle.pass_cells.proofs.written.push_link_allocas.Given as goal

abbrev pub invariant-loop-instr : goal.invariant-loop-instr
invariant-loop-instr l = l.all ≡ l.initial.all ++ l.yielded
