use Rattle.rule_slots.specs.Early.{HaveEnds}
use Rattle.rule_slots.proofs.ends.end_marks.Given as goal

abbrev pub invariant-loop-label : goal.invariant-loop-label
invariant-loop-label l = HaveEnds l.function l.before l.label l.marks
