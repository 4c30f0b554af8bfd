use Rattle.std.proofs.Common.{◌≡◌, ◌++◌}
use Rattle.pass_fetch.proofs.names.with_numbered_names.Given as goal

abbrev pub invariant-loop-name : goal.invariant-loop-name
invariant-loop-name l = l.all ≡ l.initial.all ++ l.yielded
