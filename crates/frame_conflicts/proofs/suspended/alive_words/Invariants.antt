use Rattle.std.proofs.Common.{◌≡◌, map, take}
use Rattle.frame_conflicts.specs.Suspended.{alive_word}
use Rattle.frame_conflicts.proofs.suspended.alive_words.Given as goal

abbrev pub invariant-loop-suspend : goal.invariant-loop-suspend
invariant-loop-suspend l = l.words.items ≡ map (alive_word l.here.rows l.here.marked l.behind) (take l.suspend-index l.suspends)
