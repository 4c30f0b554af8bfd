use Rattle.std.proofs.Common.{sym}
use Rattle.pass_frames.proofs.Told.{framed_next, none_framed}
use Rattle.pass_frames.proofs.pass.framed_functions.Goals as goal

pub loop-function-init : goal.loop-function-init
loop-function-init c = none_framed c.args.types.now.sizes.now.names.now.source.now c.args.layouts.now c.args.functions.now c.new-all.result c.new-all.ensures

pub loop-function-preserved : goal.loop-function-preserved
loop-function-preserved c = framed_next c.args.types.now.sizes.now.names.now.source.now c.args.layouts.now c.loop-function.taken c.in_ok-taken.taken c.loop-function.function-index c.args.functions.now c.loop-function.all c.push_framed.new.all c.function-item.result
    c.loop-function.invariant
    c.loop-function-test.true
    (sym c.function-item.is)
    c.in_ok-taken.ensures
