use Rattle.std.proofs.Common.{◌≡◌, map, take}
use Rattle.run_step.specs.Values.{arg_value}
use Rattle.run_step.proofs.program.Program.values_of_args.Given as goal

abbrev pub invariant-loop-arg : goal.invariant-loop-arg
invariant-loop-arg l = l.all ≡ map (arg_value l.self.module l.values) (take l.arg-index l.args)
