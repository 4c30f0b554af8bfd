use Rattle.std.proofs.Common.{◌≡◌, ◌++◌, drop}
use Rattle.frame_crossing.specs.Values.{instrs_defined}
use Rattle.frame_crossing.proofs.values.push_instrs.Given as goal

abbrev pub invariant-loop-instr : goal.invariant-loop-instr
invariant-loop-instr l = l.all.items ++ instrs_defined (drop l.instr-index l.instrs) ≡ l.initial.all.items ++ instrs_defined l.instrs
