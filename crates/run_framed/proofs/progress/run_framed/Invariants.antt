use Rattle.std.proofs.Common.{◌≡◌}
use Rattle.run_framed.specs.Framed.{framed_step}
use Rattle.run_framed.specs.FramedEffects.{framed_of}
use Rattle.run_framed.proofs.progress.run_framed.Given as goal
use Rattle.run_step.specs.Runs.{iterate}

abbrev pub invariant-loop-made : goal.invariant-loop-made
invariant-loop-made l = l.state ≡ iterate (framed_step (framed_of l.program)) l.made l.initial.state
