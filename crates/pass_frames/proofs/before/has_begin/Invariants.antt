use Rattle.std.proofs.Common.{◌≡◌, drop}
use Rattle.pass_frames.specs.Framed.{has_begin}
use Rattle.pass_frames.proofs.before.has_begin.Given as goal

abbrev pub invariant-loop-instr : goal.invariant-loop-instr
invariant-loop-instr l = has_begin (drop l.instr-index l.instrs) ≡ has_begin l.instrs
