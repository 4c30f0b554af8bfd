use Rattle.std.proofs.Common.{◌≡◌, ◌++◌, drop}
use Rattle.frame_slots.specs.Words.{questions_from}
use Rattle.frame_slots.proofs.addresses.questions_of.Given as goal

abbrev pub invariant-loop-slot : goal.invariant-loop-slot
invariant-loop-slot l = (l.at ≡ l.slot-index) × (l.all.items ++ questions_from l.at (drop l.slot-index l.slots) ≡ questions_from 0 l.slots)
