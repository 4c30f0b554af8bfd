use Rattle.std.proofs.Common.{drop}
use Rattle.frame_crossing.proofs.Numbering.{AreUnderway}
use Rattle.frame_crossing.proofs.numbers.numbers_of.Given as goal

abbrev pub invariant-loop-value : goal.invariant-loop-value
invariant-loop-value l = AreUnderway l.names l.defined (drop l.value-index l.defined) l.all.numbers l.all.values
