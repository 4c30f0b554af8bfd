use Rattle.std.proofs.Common.{arith, ap, ◌∙◌, List, ℕ}
use Rattle.rule_types.specs.Heights.{heights_after, reaches}
use Rattle.rule_types.proofs.Depths.{heights_turn, heights_done}
use Rattle.rule_types.proofs.heights.heights_of.Goals as goal

pub loop-depth-preserved : goal.loop-depth-preserved
loop-depth-preserved c =
    (heights_turn c.args.names.now.source.now.types c.loop-depth.depth c.loop-depth.heights c.in_ok-heights-2.heights (omega arith) c.loop-depth.invariant.0 (c.in_ok-heights-2.ensures ∙ ap (λ (l : List ℕ). heights_after (reaches c.args.names.now.source.now.types l) c.loop-depth.depth c.args.names.now.source.now.types l) c.as_slice-in-loop-depth.ensures), omega arith)

pub returns : goal.returns
returns c = heights_done c.args.names.now.source.now.types c.loop-depth.depth c.loop-depth.heights (omega arith) c.loop-depth.invariant.0
