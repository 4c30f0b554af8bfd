use Rattle.std.proofs.Common.{◌≡◌, drop}
use Rattle.frame_slots.specs.Words.{instrs_word}
use Rattle.frame_slots.proofs.escaped.instrs_word.Given as goal

abbrev pub invariant-loop-instr : goal.invariant-loop-instr
invariant-loop-instr l = instrs_word l.words l.word (drop l.instr-index l.instrs) ≡ instrs_word l.words l.first l.instrs
