use Rattle.std.proofs.Common.{◌≡◌, ◌++◌, drop}
use Rattle.rule_slots.specs.Steps.{steps_by}
use Rattle.rule_slots.proofs.steps.all_steps.Given as goal

abbrev pub invariant-loop-block : goal.invariant-loop-block
invariant-loop-block l = l.all ++ steps_by (drop l.block-index l.blocks) ≡ steps_by l.blocks
