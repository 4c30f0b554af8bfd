use Rattle.std.proofs.Common.{◌≡◌, take}
use Rattle.run_framed.specs.Tables.{ramps_from}
use Rattle.run_framed.proofs.ramps.given_ramps.Given as goal

abbrev pub invariant-loop-func : goal.invariant-loop-func
invariant-loop-func l = l.all ≡ ramps_from 0 (take l.func l.functions)
