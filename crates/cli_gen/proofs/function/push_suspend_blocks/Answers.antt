use Rattle.cli_gen.proofs.Each.{one_more}
use Rattle.cli_gen.specs.Suspending.{blocks_of_suspend}
use Rattle.cli_gen.proofs.function.push_suspend_blocks.Goals as goal

pub loop-j-preserved : goal.loop-j-preserved
loop-j-preserved c =
    one_more c.args.all.now c.loop-j.all c.push_blocks_of_suspend.new.all (blocks_of_suspend c.args.coroutine) c.loop-j.j c.loop-j.invariant c.in_ok-push_blocks_of_suspend.ensures
