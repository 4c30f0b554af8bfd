use Rattle.std.proofs.Common.{◌≡◌, ◌++◌, drop}
use Rattle.frame_contents.specs.Held.{frame_slots_from}
use Rattle.frame_contents.proofs.marks.frame_slots.Given as goal

abbrev pub invariant-loop-slot : goal.invariant-loop-slot
invariant-loop-slot l = l.slots.items ++ frame_slots_from l.classes l.k (drop l.slot-index l.allocas) ≡ frame_slots_from l.classes 0 l.allocas
