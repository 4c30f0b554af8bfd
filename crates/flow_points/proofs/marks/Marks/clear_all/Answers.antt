use Rattle.std.proofs.Common.{arith, get_or}
use Rattle.flow_points.proofs.Marking.{cleared-all, cleared-more, cleared-none}
use Rattle.flow_points.proofs.Tests.{no_point, read-again}
use Rattle.flow_points.proofs.marks.Marks.clear_all.Goals as goal

pub loop-point-init : goal.loop-point-init
loop-point-init c = cleared-none c.args.self.now

pub loop-point-preserved : goal.loop-point-preserved
loop-point-preserved c =
    cleared-more c.args.points.now c.loop-point.point-index (get_or c.args.points.now c.loop-point.point-index no_point) c.args.self.now c.loop-point.self c.set.new.self
    c.loop-point-test.true (read-again c.args.points.now c.loop-point.point-index no_point c.loop-point-test.true) c.set.ensures c.loop-point.invariant

pub returns : goal.returns
returns c = cleared-all c.args.points.now c.loop-point.point-index c.args.self.now c.loop-point.self (omega arith) c.loop-point.invariant
