use Rattle.std.proofs.Common.{◌≡◌}
use Rattle.run_step.specs.Runs.{iterate}
use Rattle.run_plain.specs.Plain.{plain_step}
use Rattle.run_plain.specs.PlainEffects.{given_of}
use Rattle.run_plain.proofs.progress.run_state.Given as goal

abbrev pub invariant-loop-made : goal.invariant-loop-made
invariant-loop-made l = l.state ≡ iterate (plain_step (given_of l.program)) l.made l.initial.state
