use Rattle.std.proofs.Common.{◌∙◌, refl}
use Rattle.frame_conflicts.proofs.Looking.{looked_made}
use Rattle.frame_conflicts.proofs.looked.looked_points.Goals as goal

pub returns : goal.returns
returns c = looked_made c.args.function.now c.as_slice-ends.result.now _ c.push_blocks.new.all c.new-all.result c.in_ok-after.after c.end_block-last.result c.as_slice-blocks.result.now
    c.in_ok-after.ensures.set (c.as_slice-ends.ensures ∙ c.in_ok-found.ensures) refl c.end_block-last.ensures c.as_slice-blocks.ensures c.new-all.ensures c.in_ok-push_blocks.ensures
