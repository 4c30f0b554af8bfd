use Rattle.std.proofs.Common.{◌≡◌, ◌++◌, ◌∷◌, drop, take, map, filter, length, ◌-◌, ◌+◌}
use Rattle.pass_front.specs.Front.{is_alloca}
use Rattle.pass_front.proofs.front.push_allocas.Given as goal

abbrev pub invariant-loop-instr : goal.invariant-loop-instr
invariant-loop-instr l = l.all ++ filter is_alloca (drop l.instr-index l.instrs) ≡ l.initial.all ++ filter is_alloca l.instrs
