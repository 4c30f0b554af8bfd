use Rattle.std.proofs.Common.{◌≡◌, drop}
use Rattle.rule_uses.specs.Questions.{instrs_word}
use Rattle.rule_uses.proofs.words.instrs_word.Given as goal

abbrev pub invariant-loop-instr : goal.invariant-loop-instr
invariant-loop-instr l = instrs_word l.numbers l.chunk l.word (drop l.instr-index l.instrs) ≡ instrs_word l.numbers l.chunk l.first l.instrs
