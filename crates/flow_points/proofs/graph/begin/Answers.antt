use Rattle.std.proofs.Common.{get_or, arith, ◌∙◌}
use Rattle.flow_points.proofs.Tests.{no_point, read-again}
use Rattle.flow_points.proofs.Growing.{begun-all, begun-more, grown-none}
use Rattle.flow_points.proofs.graph.begin.Goals as goal

pub loop-start-init : goal.loop-start-init
loop-start-init c = grown-none c.args.marks.now c.args.found.now.items c.requires.marked

pub follow-requires-clause-sizes : goal.follow-requires-clause-sizes
follow-requires-clause-sizes c = c.loop-start.invariant.sizes ∙ c.requires.sizes

pub follow-requires-clause-marked : goal.follow-requires-clause-marked
follow-requires-clause-marked c = c.loop-start.invariant.marked

pub loop-start-preserved : goal.loop-start-preserved
loop-start-preserved c =
    begun-more c.args.function.now c.args.direction c.args.starts.now c.loop-start.start-index (get_or c.args.starts.now c.loop-start.start-index no_point) c.args.marks.now c.args.found.now.items c.loop-start.marks c.loop-start.found.items c.follow.new.marks c.follow.new.found.items
    (omega arith) (read-again c.args.starts.now c.loop-start.start-index no_point c.loop-start-test.true) c.loop-start.invariant c.in_ok-follow.ensures

pub returns : goal.returns
returns c = begun-all c.args.function.now c.args.direction c.args.starts.now c.loop-start.start-index c.args.marks.now c.args.found.now.items c.loop-start.marks c.loop-start.found.items (omega arith) c.loop-start.invariant
