use Rattle.std.proofs.Common.{length, map, take}
use Rattle.flow_blocks.specs.Words.{AreMarked}
use Rattle.rule_uses.proofs.rule.param_marks.Given as goal

abbrev pub invariant-loop-param : goal.invariant-loop-param
invariant-loop-param l = AreMarked (length l.function.names) (map (λ p. p.name) (take l.param-index l.function.params)) l.marks
