use Rattle.std.proofs.Common.{drop}
use Rattle.rule_slots.specs.Early.{LabelsBelow}
use Rattle.rule_slots.proofs.ends.labels_below.Given as goal

abbrev pub invariant-loop-block : goal.invariant-loop-block
invariant-loop-block l = LabelsBelow (drop l.block-index l.blocks) l.count → LabelsBelow l.blocks l.count
