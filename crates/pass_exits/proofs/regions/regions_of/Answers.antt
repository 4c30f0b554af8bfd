use Rattle.pass_exits.proofs.LeftWindows.{regions-more}
use Rattle.pass_exits.proofs.regions.regions_of.Goals as goal

pub loop-window-preserved : goal.loop-window-preserved
loop-window-preserved c =
    regions-more c.args.function.now c.args.windows.now c.loop-window.window-index c.window-item.result c.in_ok-region_of.field-0 c.loop-window.all c.push.new.self c.loop-window-test.true c.window-item.is c.loop-window.invariant c.in_ok-region_of.ensures c.in_ok-push.ensures.ok
