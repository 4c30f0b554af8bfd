use Rattle.std.proofs.Common.{◌≡◌, ◌++◌, drop}
use Rattle.pass_copies.specs.Slots.{slots_from}
use Rattle.pass_copies.proofs.slots.slots_from.Given as goal

abbrev pub invariant-loop-instr : goal.invariant-loop-instr
invariant-loop-instr l = l.all ++ slots_from l.used l.sizes l.next (drop l.instr-index l.instrs) ≡ slots_from l.used l.sizes l.first l.instrs
