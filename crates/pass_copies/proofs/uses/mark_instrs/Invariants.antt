use Rattle.std.proofs.Common.{◌≡◌, drop}
use Rattle.pass_copies.specs.Uses.{mark_instrs}
use Rattle.pass_copies.proofs.uses.mark_instrs.Given as goal

abbrev pub invariant-loop-instr : goal.invariant-loop-instr
invariant-loop-instr l = mark_instrs l.slots l.is_before l.used (drop l.instr-index l.instrs) ≡ mark_instrs l.slots l.first l.initial.used l.instrs
