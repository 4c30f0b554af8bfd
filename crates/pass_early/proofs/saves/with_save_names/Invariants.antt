use Rattle.std.proofs.Common.{◌≡◌, ◌++◌, drop}
use Rattle.pass_early.proofs.saves.with_save_names.Given as goal

abbrev pub invariant-loop-name : goal.invariant-loop-name
invariant-loop-name l = l.all ++ drop l.name-index l.name-items ≡ l.names ++ l.name-items
