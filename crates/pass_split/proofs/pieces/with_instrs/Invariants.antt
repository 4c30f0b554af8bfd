use Rattle.std.proofs.Common.{◌≡◌, ◌++◌, ◌∷◌, drop, take, map, filter, length, ◌-◌, ◌+◌}
use Rattle.pass_split.specs.Pieces.{with_instrs}
use Rattle.pass_split.proofs.pieces.with_instrs.Given as goal

abbrev pub invariant-loop-rest : goal.invariant-loop-rest
invariant-loop-rest l = with_instrs l.shape l.part l.term l.piecing l.rest ≡ with_instrs l.shape l.part l.term l.fn.first l.instrs

abbrev pub decreases-loop-rest : goal.decreases-loop-rest
decreases-loop-rest l = length l.rest
