use Rattle.std.proofs.Common.{◌≡◌, drop}
use Rattle.run_framed.specs.Framed.{alloca_in}
use Rattle.run_framed.proofs.reentry.alloca_in.Given as goal

abbrev pub invariant-loop-at : goal.invariant-loop-at
invariant-loop-at l = alloca_in l.from (drop l.from l.instrs) ≡ alloca_in l.at (drop l.at l.instrs)
