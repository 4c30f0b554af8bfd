use Rattle.std.proofs.Common.{◌≡◌, drop}
use Rattle.frame_crossing.specs.OneWalk.{instrs_far, instrs_made}
use Rattle.frame_crossing.proofs.walk.see_instrs.Given as goal

abbrev pub invariant-loop-instr : goal.invariant-loop-instr
invariant-loop-instr l =
    (instrs_made l.mark l.made (drop l.instr-index l.instrs) ≡ instrs_made l.mark l.initial.made l.instrs)
    × (instrs_far l.mark l.made l.far (drop l.instr-index l.instrs) l.term ≡ instrs_far l.mark l.initial.made l.initial.far l.instrs l.term)
