use Rattle.std.proofs.Common.{◌≡◌, ◌++◌, drop, map}
use Rattle.pass_copies.specs.BeginCopies.{put}
use Rattle.pass_copies.proofs.written.push_first_puts.Given as goal

abbrev pub invariant-loop-slot : goal.invariant-loop-slot
invariant-loop-slot l = l.all ++ map (λ s. put s.temporary s.cell) (drop l.slot-index l.slots) ≡ l.initial.all ++ map (λ s. put s.temporary s.cell) l.slots
