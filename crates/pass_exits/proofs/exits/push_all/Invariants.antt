use Rattle.std.proofs.Common.{◌≡◌, ◌++◌, drop}
use Rattle.pass_exits.proofs.exits.push_all.Given as goal

abbrev pub invariant-loop-exit : goal.invariant-loop-exit
invariant-loop-exit l = l.all ++ drop l.exit-index l.exits ≡ l.initial.all ++ l.exits
