use Rattle.std.proofs.Common.{◌≡◌, drop}
use Rattle.frame_crossing.specs.Words.{open_word}
use Rattle.frame_crossing.proofs.text.open_word.Given as goal

abbrev pub invariant-loop-instr : goal.invariant-loop-instr
invariant-loop-instr l = open_word l.numbers l.chunk l.made l.found (drop l.instr-index l.instrs) l.term ≡ open_word l.numbers l.chunk l.phis 0 l.instrs l.term
