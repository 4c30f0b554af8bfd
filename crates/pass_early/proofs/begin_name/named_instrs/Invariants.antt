use Rattle.std.proofs.Common.{◌≡◌, ◌++◌, drop, map}
use Rattle.pass_early.specs.BeginName.{named_instr}
use Rattle.pass_early.proofs.begin_name.named_instrs.Given as goal

abbrev pub invariant-loop-instr : goal.invariant-loop-instr
invariant-loop-instr l = l.all ++ map (named_instr l.id) (drop l.instr-index l.instrs) ≡ map (named_instr l.id) l.instrs
