use Rattle.std.proofs.Common.{◌≡◌, ◌++◌, drop}
use Rattle.pass_split.specs.Given.{called_names}
use Rattle.pass_split.proofs.given.called_names.Given as goal

abbrev pub invariant-loop-function : goal.invariant-loop-function
invariant-loop-function l = l.all ++ called_names (drop l.function-index l.functions) ≡ called_names l.functions
