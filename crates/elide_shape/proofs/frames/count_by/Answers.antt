use Rattle.std.proofs.Common.{List, ap, flat_map, ◌∙◌}
use Rattle.rule_shape.specs.Uses.{counted_all}
use Rattle.elide_shape.proofs.Counting.{count_step}
use Rattle.ir_model.specs.declared.instr.Instr.{Instr}
use Rattle.elide_shape.proofs.frames.count_by.Goals as goal

pub loop-block-preserved : goal.loop-block-preserved
loop-block-preserved g c =
    count_step (λ b. flat_map (g.C.Choice.chosen c.args.choice.now) b.instrs) c.loop-block.counts c.count_in.new.counts c.args.blocks.now c.loop-block.block-index c.block-item.result _ c.loop-block-test.true c.block-item.is
    (c.in_ok-count_in.ensures ∙ ap (λ (l : List Instr). counted_all c.loop-block.counts (flat_map (g.C.Choice.chosen c.args.choice.now) l)) c.as_slice.ensures) c.loop-block.invariant
