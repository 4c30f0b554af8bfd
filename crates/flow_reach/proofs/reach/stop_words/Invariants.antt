use Rattle.std.proofs.Common.{◌≡◌, ◌++◌, drop}
use Rattle.flow_reach.specs.Rows.{each_from, stops_of}
use Rattle.flow_reach.proofs.reach.stop_words.Given as goal

abbrev pub invariant-loop-row : goal.invariant-loop-row
invariant-loop-row l = l.words.items ++ each_from (stops_of l.closed) l.at (drop l.row-index l.rows) ≡ each_from (stops_of l.closed) 0 l.rows
