use Rattle.pass_frames.proofs.Told.{framed_by}
use Rattle.pass_frames.proofs.coroutine.framed_with.Goals as goal

pub returns : goal.returns
returns c = framed_by c.args.types.now.sizes.now.names.now.source.now c.args.layout.now c.args.function.now c.args.contents.now c.in_ok-celled.celled c.in_ok-copied.copied c.in_ok-laid.laid c.in_ok-before.before.items c.as_slice.result.now c.with_front_allocas.result
    c.requires
    c.in_ok-celled.ensures
    c.in_ok-before.ensures
    c.as_slice.ensures.value
    c.in_ok-copied.ensures
    c.in_ok-laid.ensures
    c.with_front_allocas.ensures
