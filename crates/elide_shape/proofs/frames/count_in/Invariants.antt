use Rattle.std.proofs.Common.{◌≡◌, drop, flat_map}
use Rattle.rule_shape.specs.Uses.{counted_all}
use Rattle.elide_shape.proofs.frames.count_in.Given as goal

abbrev pub invariant-loop-instr : goal.invariant-loop-instr
invariant-loop-instr g l = counted_all l.counts (flat_map (g.C.Choice.chosen l.choice) (drop l.instr-index l.instrs)) ≡ counted_all l.initial.counts (flat_map (g.C.Choice.chosen l.choice) l.instrs)
