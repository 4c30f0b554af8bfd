use Rattle.std.proofs.Common.{◌≡◌, ◌++◌, drop}
use Rattle.pass_elide.proofs.elided.push_copies.Given as goal

abbrev pub invariant-loop-instr : goal.invariant-loop-instr
invariant-loop-instr l = l.all ++ drop l.instr-index l.instrs ≡ l.initial.all ++ l.instrs
