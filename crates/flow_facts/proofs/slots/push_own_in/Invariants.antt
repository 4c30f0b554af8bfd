use Rattle.std.proofs.Common.{◌≡◌, ◌++◌, drop}
use Rattle.flow_facts.specs.Slots.{own_in}
use Rattle.flow_facts.proofs.slots.push_own_in.Given as goal

abbrev pub invariant-loop-instr : goal.invariant-loop-instr
invariant-loop-instr l = l.slots ++ own_in l.promise l.words (drop l.instr-index l.instrs) ≡ l.initial.slots ++ own_in l.promise l.words l.instrs
