use Rattle.std.proofs.Common.{◌≡◌, length}
use Rattle.run_step.specs.Step.{without_slots}
use Rattle.run_step_code.proofs.memory_step.kill_slots.Given as goal

abbrev pub invariant-loop-slot : goal.invariant-loop-slot
invariant-loop-slot l = without_slots l.initial.memory l.initial.slots ≡ without_slots l.memory l.slots

abbrev pub decreases-loop-slot : goal.decreases-loop-slot
decreases-loop-slot l = length l.slots
