use Rattle.std.proofs.Common.{◌≡◌, drop}
use Rattle.pass_cells.specs.Links.{with_bases_in}
use Rattle.pass_cells.proofs.climbing.set_bases_in.Given as goal

abbrev pub invariant-loop-instr : goal.invariant-loop-instr
invariant-loop-instr l = with_bases_in l.bases (drop l.instr-index l.instrs) ≡ with_bases_in l.initial.bases l.instrs
