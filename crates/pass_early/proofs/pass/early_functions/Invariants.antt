use Rattle.std.proofs.Common.{◌≡◌, ◌++◌, drop, map}
use Rattle.pass_early.specs.Early.{early_function}
use Rattle.pass_early.proofs.pass.early_functions.Given as goal

abbrev pub invariant-loop-function : goal.invariant-loop-function
invariant-loop-function l = l.all ++ map early_function (drop l.function-index l.functions) ≡ map early_function l.functions
