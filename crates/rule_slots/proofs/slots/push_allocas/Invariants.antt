use Rattle.std.proofs.Common.{◌≡◌, ◌++◌, drop}
use Rattle.ir_paths.specs.Slots.{allocas_in}
use Rattle.rule_slots.proofs.slots.push_allocas.Given as goal

abbrev pub invariant-loop-instr : goal.invariant-loop-instr
invariant-loop-instr l = l.all ++ allocas_in (drop l.instr-index l.instrs) ≡ l.initial.all ++ allocas_in l.instrs
