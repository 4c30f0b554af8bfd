use Rattle.std.proofs.Common.{drop}
use Rattle.compiler.specs.Printed.{AllFew}
use Rattle.compiler.proofs.lowered.names_are_few.Given as goal

abbrev pub invariant-loop-function : goal.invariant-loop-function
invariant-loop-function l = AllFew (drop l.function-index l.functions) → AllFew l.functions
