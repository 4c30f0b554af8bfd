use Rattle.std.proofs.Common.{◌≡◌, ◌++◌, drop}
use Rattle.frame_classes.specs.Answer.{classes_from}
use Rattle.frame_classes.proofs.answer.classes_of.Given as goal

abbrev pub invariant-loop-slot : goal.invariant-loop-slot
invariant-loop-slot l = l.all ++ classes_from l.ramp l.words l.at (drop l.slot-index l.slots) ≡ classes_from l.ramp l.words 0 l.slots
