use Rattle.std.proofs.Common.{◌≡◌, ◌++◌, ◌∷◌, drop, take, map, filter, length, ◌-◌, ◌+◌}
use Rattle.pass_split.specs.Parts.{back_blocks}
use Rattle.pass_split.proofs.parts.push_back_blocks.Given as goal

abbrev pub invariant-loop-point : goal.invariant-loop-point
invariant-loop-point l = l.all ++ back_blocks l.shape l.part l.number (drop l.point-index l.suspends) ≡ l.initial.all ++ back_blocks l.shape l.part 0 l.suspends
