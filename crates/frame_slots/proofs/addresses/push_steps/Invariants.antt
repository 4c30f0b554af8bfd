use Rattle.std.proofs.Common.{◌≡◌, ◌++◌, drop}
use Rattle.rule_slots.specs.Steps.{steps_in}
use Rattle.frame_slots.proofs.addresses.push_steps.Given as goal

abbrev pub invariant-loop-instr : goal.invariant-loop-instr
invariant-loop-instr l = l.all ++ steps_in (drop l.instr-index l.instrs) ≡ l.initial.all ++ steps_in l.instrs
