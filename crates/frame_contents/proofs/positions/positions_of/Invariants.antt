use Rattle.std.proofs.Common.{◌≡◌, ℕ, None, drop, get_or}
use Rattle.frame_contents.specs.Held.{position_from, position_of}
use Rattle.frame_contents.specs.Tables.{first_some}
use Rattle.frame_contents.proofs.positions.positions_of.Given as goal

abbrev pub invariant-loop-k : goal.invariant-loop-k
invariant-loop-k l = (v : ℕ) → first_some (get_or l.table v None) (position_from l.k (drop l.k l.held) v) ≡ position_of l.held v
