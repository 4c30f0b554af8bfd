use Rattle.std.proofs.Common.{◌≡◌, ◌++◌, drop}
use Rattle.frame_crossing.specs.Words.{suspend_words}
use Rattle.frame_crossing.proofs.pairs.push_suspends.Given as goal

abbrev pub invariant-loop-instr : goal.invariant-loop-instr
invariant-loop-instr l = l.words.items ++ suspend_words l.numbers l.chunk l.before l.behind (drop l.instr-index l.instrs) ≡ l.initial.words.items ++ suspend_words l.numbers l.chunk l.first l.behind l.instrs
