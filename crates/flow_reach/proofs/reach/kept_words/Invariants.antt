use Rattle.std.proofs.Common.{◌≡◌, map, take}
use Rattle.flow_reach.specs.Rows.{kept_word}
use Rattle.flow_reach.proofs.reach.kept_words.Given as goal

abbrev pub invariant-loop-from : goal.invariant-loop-from
invariant-loop-from l = l.words.items ≡ map (kept_word l.stops) (take l.from-index l.edges)
