use Rattle.std.proofs.Common.{◌≡◌}
use Rattle.run_source_tables.specs.run_step.Runs.{iterate}
use Rattle.run_source.specs.Source.{step}
use Rattle.run_source.specs.SourceEffects.{given_of}
use Rattle.run_source.proofs.progress.run_state.Given as goal

abbrev pub invariant-loop-made : goal.invariant-loop-made
invariant-loop-made l = l.state ≡ iterate (step (given_of l.given)) l.made l.initial.state
