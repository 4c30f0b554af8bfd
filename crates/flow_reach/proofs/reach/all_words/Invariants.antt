use Rattle.std.proofs.Common.{◌≡◌, ◌++◌, drop}
use Rattle.flow_reach.specs.Rows.{each_from, words_of}
use Rattle.flow_reach.proofs.reach.all_words.Given as goal

abbrev pub invariant-loop-row : goal.invariant-loop-row
invariant-loop-row l = l.all.items ++ each_from (words_of l.closed l.words) l.at (drop l.row-index l.rows) ≡ each_from (words_of l.closed l.words) 0 l.rows
