use Rattle.std.proofs.Common.{◌≡◌, None, get_or, map, take}
use Rattle.frame_contents.proofs.positions.slot_positions.Given as goal

abbrev pub invariant-loop-slot : goal.invariant-loop-slot
invariant-loop-slot l = l.positions.items ≡ map (λ v. get_or l.table v None) (take l.slot-index l.allocas)
