use Rattle.frame_placing.proofs.Passing.{IsPassing}
use Rattle.frame_placing.proofs.bars.least_offset.Given as goal

abbrev pub invariant-loop-bar : goal.invariant-loop-bar
invariant-loop-bar l = IsPassing l.bars l.size l.align l.last l.bar-index l.at
