use Rattle.std.proofs.Common.{◌≡◌, ◌++◌, drop}
use Rattle.rule_shape.specs.Places.{places_by}
use Rattle.rule_shape.proofs.places.push_by.Given as goal

abbrev pub invariant-loop-block : goal.invariant-loop-block
invariant-loop-block g l = l.all ++ places_by (g.T.InstrTest.instr_passes l.test) l.func l.at (drop l.block-index l.blocks) ≡ l.initial.all ++ places_by (g.T.InstrTest.instr_passes l.test) l.func 0 l.blocks
