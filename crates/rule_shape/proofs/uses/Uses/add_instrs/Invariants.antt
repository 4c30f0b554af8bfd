use Rattle.std.proofs.Common.{◌≡◌, drop}
use Rattle.rule_shape.specs.Uses.{counted_instrs}
use Rattle.rule_shape.proofs.uses.Uses.add_instrs.Given as goal

abbrev pub invariant-loop-instr : goal.invariant-loop-instr
invariant-loop-instr l = counted_instrs l.self (drop l.instr-index l.instrs) ≡ counted_instrs l.initial.self l.instrs
