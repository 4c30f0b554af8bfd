use Rattle.std.proofs.Common.{◌≡◌, ◌++◌, drop}
use Rattle.pass_early.proofs.saves.with_first.Given as goal

abbrev pub invariant-loop-arg : goal.invariant-loop-arg
invariant-loop-arg l = l.all ++ drop l.arg-index l.others ≡ l.initial.all ++ l.others
