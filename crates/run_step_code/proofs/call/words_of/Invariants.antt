use Rattle.std.proofs.Common.{◌≡◌, ◌++◌, drop, map}
use Rattle.std.specs.Prelude.{option_map}
use Rattle.run_step.specs.Step.{words_of}
use Rattle.run_step.specs.Values.{arg_value}
use Rattle.run_step_code.proofs.call.words_of.Given as goal

abbrev pub invariant-loop-arg : goal.invariant-loop-arg
invariant-loop-arg l =
    words_of (map (arg_value l.program.module l.values) l.args)
    ≡ option_map (λ ws. l.words ++ ws) (words_of (map (arg_value l.program.module l.values) (drop l.arg-index l.args)))
