use Rattle.pass_frames.proofs.Told.{pushed_framed}
use Rattle.pass_frames.proofs.pass.push_framed.Goals as goal

pub returns-then-function : goal.returns-then-function
returns-then-function c = pushed_framed c.args.types.now.sizes.now.names.now.source.now c.args.layouts.now c.args.taken c.args.function.now c.in_ok-framed.framed c.args.all.now c.push.new.self c.next.result
    c.if-function.true
    c.in_ok-framed.ensures
    c.in_ok-push.ensures.ok
    c.next.ensures
