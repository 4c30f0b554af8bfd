use Rattle.std.proofs.Common.{◌≡◌, drop}
use Rattle.rule_uses.specs.Questions.{instrs_word}
use Rattle.rule_window_values.specs.Words.{told_instrs}
use Rattle.rule_window_values.proofs.scan.told_instrs.Given as goal

abbrev pub invariant-loop-instr : goal.invariant-loop-instr
invariant-loop-instr l = record { made : instrs_word l.numbers l.chunk l.walk.made (drop l.instr-index l.instrs) ≡ instrs_word l.numbers l.chunk l.fn.first.made l.instrs; told : told_instrs l.numbers l.chunk l.base l.walk.made l.walk.told (drop l.instr-index l.instrs) ≡ told_instrs l.numbers l.chunk l.base l.fn.first.made l.fn.first.told l.instrs }
