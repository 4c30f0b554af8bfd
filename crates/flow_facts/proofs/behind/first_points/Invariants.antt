use Rattle.std.proofs.Common.{◌≡◌, ◌++◌, drop}
use Rattle.flow_facts.specs.Slots.{firsts_from}
use Rattle.flow_facts.proofs.behind.first_points.Given as goal

abbrev pub invariant-loop-block : goal.invariant-loop-block
invariant-loop-block l = l.all ++ firsts_from l.function l.block (drop l.block l.entered) ≡ firsts_from l.function 0 l.entered
