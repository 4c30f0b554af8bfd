use Rattle.std.proofs.Common.{◌≡◌, ◌++◌, ℕ, [], drop, get_or}
use Rattle.frame_layout.specs.Rows.{seconds_of}
use Rattle.frame_layout.proofs.rows.rows_by_first.Given as goal

abbrev pub invariant-loop-pair : goal.invariant-loop-pair
invariant-loop-pair l = (s : ℕ) → get_or l.rows.items s [] ++ seconds_of (drop l.pair-index l.pairs) s ≡ seconds_of l.pairs s
