use Rattle.pass_split.proofs.Called.{one_more}
use Rattle.pass_split.proofs.pass.split_by.Goals as goal

pub loop-function-preserved : goal.loop-function-preserved
loop-function-preserved c =
    one_more c.args.calls.now.names c.args.functions.now c.loop-function.function-index c.function-item.result c.loop-function.all
    c.push_function.new.all _ c.loop-function.left.now c.layouts_after-left.result.now c.loop-function-test.true c.function-item.is
    c.loop-function.invariant c.in_ok-push_function.ensures c.layouts_after-left.ensures
