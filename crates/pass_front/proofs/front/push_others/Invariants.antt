use Rattle.std.proofs.Common.{◌≡◌, ◌++◌, ◌∷◌, drop, take, map, filter, length, ◌-◌, ◌+◌}
use Rattle.pass_front.specs.Front.{is_no_alloca}
use Rattle.pass_front.proofs.front.push_others.Given as goal

abbrev pub invariant-loop-instr : goal.invariant-loop-instr
invariant-loop-instr l = l.all ++ filter is_no_alloca (drop l.instr-index l.instrs) ≡ l.initial.all ++ filter is_no_alloca l.instrs
