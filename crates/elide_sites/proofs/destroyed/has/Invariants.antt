use Rattle.std.proofs.Common.{◌≡◌, drop}
use Rattle.std.specs.List.{list_any}
use Rattle.elide_sites.proofs.destroyed.has.Given as goal

abbrev pub invariant-loop-instr : goal.invariant-loop-instr
invariant-loop-instr g l = list_any (g.T.InstrTest.instr_passes l.test) (drop l.instr-index l.instrs) ≡ list_any (g.T.InstrTest.instr_passes l.test) l.instrs
