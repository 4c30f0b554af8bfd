use Rattle.std.proofs.Common.{◌≡◌, drop}
use Rattle.run_step.specs.Step.{incoming_from}
use Rattle.run_step_code.proofs.enter.incoming_from.Given as goal

abbrev pub invariant-loop-one : goal.invariant-loop-one
invariant-loop-one l = incoming_from l.incoming l.label ≡ incoming_from (drop l.one-index l.incoming) l.label
