use Rattle.std.proofs.Common.{◌≡◌, map, take}
use Rattle.run_step.specs.Step.{global_block}
use Rattle.run_step_code.proofs.start.first_world.Given as goal

abbrev pub invariant-loop-global : goal.invariant-loop-global
invariant-loop-global l = l.memory ≡ map (global_block l.program.module) (take l.global-index l.global-items)
