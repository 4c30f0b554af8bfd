use Rattle.std.proofs.Common.{arith, get_or}
use Rattle.flow_points.proofs.Filing.{filed-all, filed-more, filed-none, row-put}
use Rattle.flow_points.proofs.Tests.{has_point-at, no_point, read-again}
use Rattle.flow_points.proofs.edges.file.Goals as goal

pub loop-point-init : goal.loop-point-init
loop-point-init c = filed-none c.args.end c.args.rows.now.items

pub index_mut-requires : goal.index_mut-requires
index_mut-requires c =
    let lt = c.loop-point-test.true in
    let inside = c.requires.block (get_or c.args.points.now c.loop-point.point-index no_point) (has_point-at c.args.points.now c.loop-point.point-index (get_or c.args.points.now c.loop-point.point-index no_point) lt (read-again c.args.points.now c.loop-point.point-index no_point lt)) in
    let count = c.loop-point.invariant.count in
    omega (arith, inside, count)

pub loop-point-preserved : goal.loop-point-preserved
loop-point-preserved c =
    filed-more c.args.points.now c.loop-point.point-index (get_or c.args.points.now c.loop-point.point-index no_point) c.args.end c.args.rows.now.items c.loop-point.rows.items _
    c.loop-point-test.true (read-again c.args.points.now c.loop-point.point-index no_point c.loop-point-test.true) c.requires
    (row-put c.loop-point.rows.items (get_or c.args.points.now c.loop-point.point-index no_point).block c.index_mut.result.now c.push.new.self c.args.end
    (let lt = c.loop-point-test.true in
    let inside = c.requires.block (get_or c.args.points.now c.loop-point.point-index no_point) (has_point-at c.args.points.now c.loop-point.point-index (get_or c.args.points.now c.loop-point.point-index no_point) lt (read-again c.args.points.now c.loop-point.point-index no_point lt)) in
    let count = c.loop-point.invariant.count in
    omega (arith, inside, count))
    c.index_mut.ensures.value c.in_ok-push.ensures.ok)
    c.loop-point.invariant

pub returns : goal.returns
returns c = filed-all c.args.points.now c.loop-point.point-index c.args.end c.args.rows.now.items c.loop-point.rows.items (omega arith) c.loop-point.invariant
