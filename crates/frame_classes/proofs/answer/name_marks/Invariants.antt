use Rattle.std.proofs.Common.{take}
use Rattle.frame_classes.specs.Answer.{AreNamed}
use Rattle.frame_classes.proofs.answer.name_marks.Given as goal

abbrev pub invariant-loop-name : goal.invariant-loop-name
invariant-loop-name l = AreNamed (take l.name-index l.names) l.marks
