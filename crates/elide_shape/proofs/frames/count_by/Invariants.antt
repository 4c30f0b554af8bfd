use Rattle.std.proofs.Common.{◌≡◌, drop}
use Rattle.rule_shape.specs.Uses.{counted_all}
use Rattle.elide_shape.specs.Frames.{all_from}
use Rattle.elide_shape.proofs.frames.count_by.Given as goal

abbrev pub invariant-loop-block : goal.invariant-loop-block
invariant-loop-block g l = counted_all l.counts (all_from (g.C.Choice.chosen l.choice) (drop l.block-index l.blocks)) ≡ counted_all l.initial.counts (all_from (g.C.Choice.chosen l.choice) l.blocks)
