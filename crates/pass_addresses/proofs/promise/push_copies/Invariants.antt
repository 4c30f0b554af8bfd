use Rattle.std.proofs.Common.{◌≡◌, ◌++◌, drop}
use Rattle.pass_addresses.proofs.promise.push_copies.Given as goal

abbrev pub invariant-loop-arg : goal.invariant-loop-arg
invariant-loop-arg l = l.all ++ drop l.arg-index l.args ≡ l.initial.all ++ l.args
