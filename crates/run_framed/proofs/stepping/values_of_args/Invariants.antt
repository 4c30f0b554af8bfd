use Rattle.std.proofs.Common.{◌≡◌, take}
use Rattle.run_step.specs.Values.{arg_values}
use Rattle.run_framed.proofs.stepping.values_of_args.Given as goal

abbrev pub invariant-loop-arg : goal.invariant-loop-arg
invariant-loop-arg l = l.all ≡ arg_values l.program.module l.values (take l.arg-index l.args)
