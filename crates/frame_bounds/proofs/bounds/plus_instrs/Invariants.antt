use Rattle.std.proofs.Common.{◌≡◌, ◌+◌, drop}
use Rattle.frame_bounds.specs.Bounds.{instrs_bound}
use Rattle.frame_bounds.proofs.bounds.plus_instrs.Given as goal

abbrev pub invariant-loop-instr : goal.invariant-loop-instr
invariant-loop-instr l = l.sum + instrs_bound l.sizes.names.now.source.now (drop l.instr-index l.instrs) ≡ l.initial.sum + instrs_bound l.sizes.names.now.source.now l.instrs
