use Rattle.std.proofs.Common.{◌≡◌, drop}
use Rattle.std.specs.Prelude.{find}
use Rattle.elide_shape.specs.Calls.{is_other}
use Rattle.elide_shape.proofs.calls.first_other.Given as goal

abbrev pub invariant-loop-instr : goal.invariant-loop-instr
invariant-loop-instr l = find is_other (drop l.instr-index l.instrs) ≡ find is_other l.instrs
