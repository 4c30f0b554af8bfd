use Rattle.std.proofs.Common.{◌≡◌, ◌++◌, drop}
use Rattle.flow_reach.specs.Rows.{each_from, made_of}
use Rattle.flow_reach.proofs.reach.made_words.Given as goal

abbrev pub invariant-loop-row : goal.invariant-loop-row
invariant-loop-row l = l.words.items ++ each_from (made_of l.closed) l.at (drop l.row-index l.rows) ≡ each_from (made_of l.closed) 0 l.rows
