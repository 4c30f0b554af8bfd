use Rattle.std.proofs.Common.{◌≡◌, ◌++◌, ◌∷◌, drop, take, map, filter, length, ◌-◌, ◌+◌}
use Rattle.pass_split.specs.Called.{split_by}
use Rattle.pass_split.proofs.pass.split_by.Given as goal

abbrev pub invariant-loop-function : goal.invariant-loop-function
invariant-loop-function l = l.all ++ split_by l.left l.calls.names (drop l.function-index l.functions) ≡ split_by l.layouts l.calls.names l.functions
