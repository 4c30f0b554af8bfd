use Rattle.std.proofs.Common.{◌≡◌, ◌↔◌, length}
use Rattle.ir_base.proofs.data.are_same.Given as goal

abbrev pub invariant-loop-a : goal.invariant-loop-a
invariant-loop-a g l = (l.fn.a ≡ l.fn.b) ↔ (l.a ≡ l.b)

abbrev pub decreases-loop-a : goal.decreases-loop-a
decreases-loop-a g l = length l.a
