use Rattle.std.proofs.Common.{◌≡◌, map, take}
use Rattle.std.specs.List.{list_any}
use Rattle.elide_sites.proofs.destroyed.marks_of.Given as goal

abbrev pub invariant-loop-block : goal.invariant-loop-block
invariant-loop-block g l = l.marks ≡ map (λ b. list_any (g.T.InstrTest.instr_passes l.test) b.instrs) (take l.block-index l.block-items)
