use Rattle.std.proofs.Common.{◌≡◌, ◌++◌, drop, map}
use Rattle.pass_cleanup.specs.Cleanup.{clean_function}
use Rattle.pass_cleanup.proofs.pass.clean_functions.Given as goal

abbrev pub invariant-loop-function : goal.invariant-loop-function
invariant-loop-function l = l.all ++ map clean_function (drop l.function-index l.functions) ≡ map clean_function l.functions
