use Rattle.std.proofs.Common.{◌≡◌, drop}
use Rattle.pass_frames.specs.Tables.{with_slots}
use Rattle.pass_frames.proofs.tables.set_slots.Given as goal

abbrev pub invariant-loop-slot : goal.invariant-loop-slot
invariant-loop-slot l = with_slots l.class l.classes l.k (drop l.slot-index l.allocas) l.flags ≡ with_slots l.class l.classes 0 l.allocas l.initial.flags
