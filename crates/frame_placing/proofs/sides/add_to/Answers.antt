use Rattle.std.proofs.Common.{map}
use Rattle.frame_placing.proofs.Grouping.{more_step}
use Rattle.frame_placing.proofs.sides.add_to.Goals as goal

pub loop-group-preserved : goal.loop-group-preserved
loop-group-preserved c =
    more_step (map (λ bars. bars.items) c.args.side.now.items) (map (λ bars. bars.items) c.loop-group.side.items) (map (λ bars. bars.items) c.grow.new.side.items) _ c.args.groups.now c.loop-group.group-index _ c.loop-group-test.true c.loop-group.invariant c.in_ok-grow.ensures.same
    c.in_ok-add_at.ensures
