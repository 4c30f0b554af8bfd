use Rattle.std.proofs.Common.{◌≡◌, ◌++◌, drop}
use Rattle.pass_split.specs.Given.{called_in}
use Rattle.pass_split.proofs.given.push_called_in.Given as goal

abbrev pub invariant-loop-instr : goal.invariant-loop-instr
invariant-loop-instr l = l.all ++ called_in (drop l.instr-index l.instrs) ≡ l.initial.all ++ called_in l.instrs
