use Rattle.std.proofs.Common.{◌≡◌, ◌++◌, drop}
use Rattle.rule_shape.specs.Places.{places_in}
use Rattle.rule_shape.proofs.places.push_in.Given as goal

abbrev pub invariant-loop-instr : goal.invariant-loop-instr
invariant-loop-instr g l = l.all ++ places_in (g.T.InstrTest.instr_passes l.test) l.func l.block l.at (drop l.instr-index l.instrs) ≡ l.initial.all ++ places_in (g.T.InstrTest.instr_passes l.test) l.func l.block l.first l.instrs
