use Rattle.std.proofs.Common.{◌≡◌, drop}
use Rattle.pass_early.specs.Early.{flagged_in}
use Rattle.pass_early.proofs.frames.flag_in.Given as goal

abbrev pub invariant-loop-instr : goal.invariant-loop-instr
invariant-loop-instr l = flagged_in l.flags (drop l.instr-index l.instrs) ≡ flagged_in l.initial.flags l.instrs
