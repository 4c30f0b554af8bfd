use Rattle.std.proofs.Common.{◌≡◌, ◌++◌, ℕ, [], drop, get_or}
use Rattle.frame_layout.specs.Rows.{firsts_of}
use Rattle.frame_layout.proofs.rows.rows_by_second.Given as goal

abbrev pub invariant-loop-pair : goal.invariant-loop-pair
invariant-loop-pair l = (s : ℕ) → get_or l.rows.items s [] ++ firsts_of (drop l.pair-index l.pairs) s ≡ firsts_of l.pairs s
