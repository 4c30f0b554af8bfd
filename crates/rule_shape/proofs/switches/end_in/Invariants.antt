use Rattle.std.proofs.Common.{◌≡◌, ◌+◌, drop}
use Rattle.rule_shape.specs.Switches.{end_from}
use Rattle.rule_shape.proofs.switches.end_in.Given as goal

abbrev pub invariant-loop-at : goal.invariant-loop-at
invariant-loop-at l = end_from l.blocks ≡ l.at + end_from (drop l.at l.blocks)
