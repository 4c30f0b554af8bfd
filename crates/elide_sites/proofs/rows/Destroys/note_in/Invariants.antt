use Rattle.std.proofs.Common.{◌≡◌, drop}
use Rattle.elide_sites.specs.Rows.{with_destroys_in}
use Rattle.elide_sites.proofs.rows.Destroys.note_in.Given as goal

abbrev pub invariant-loop-instr : goal.invariant-loop-instr
invariant-loop-instr l = with_destroys_in l.self l.block l.at (drop l.instr-index l.instrs) ≡ with_destroys_in l.initial.self l.block 0 l.instrs
