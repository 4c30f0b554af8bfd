use Rattle.std.proofs.Common.{◌≡◌, length}
use Rattle.run_step.specs.Effects.{with_taken}
use Rattle.run_step_code.proofs.enter.set_taken.Given as goal

abbrev pub invariant-loop-left : goal.invariant-loop-left
invariant-loop-left l = with_taken l.initial.values l.phis l.taken ≡ with_taken l.values l.left l.given

abbrev pub decreases-loop-left : goal.decreases-loop-left
decreases-loop-left l = length l.left
