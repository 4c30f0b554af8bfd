use Rattle.std.proofs.Common.{get_or, false}
use Rattle.frame_contents.proofs.Marked.{held_joined}
use Rattle.frame_contents.proofs.held.held_by.Goals as goal

pub returns : goal.returns
returns c =
    held_joined c.args.sizes.now.names.now.source.now c.args.function.now (λ v. get_or c.args.values.now v false) (λ v. get_or c.args.slots.now v false) c.in_ok-promise.promise c.as_slice.result.now c.as_slice-2.result.now _ _ _ c.new-all.ensures
    c.in_ok-promise.ensures c.as_slice.ensures c.as_slice-2.ensures c.in_ok-push_params.ensures c.in_ok-push_blocks.ensures
