use Rattle.std.proofs.Common.{◌∙◌, ap, arith, sym}
use Rattle.flow_points.specs.Search.{adjoins, is_closed}
use Rattle.flow_points.proofs.Settling.{goes-not-on, goes-on, left-as, left-closed, left-open, settled-all, underway-as, underway-closed, underway-open, underway-start}
use Rattle.flow_points.proofs.graph.settle.Goals as goal
use Rattle.flow_points.proofs.graph.settle.Goals.{else-has-goes_on, then-has-goes_on+in_ok-follow}

pub loop-at-init : goal.loop-at-init
loop-at-init c = underway-start c.args.function.now c.args.direction (is_closed c.args.limits.now c.args.goes_on) c.args.marks.now c.args.found.now.items c.requires.marked

pub loop-at-preserved : goal.loop-at-preserved
loop-at-preserved c =
    elim c.if-has-goes_on.branch [
      | then-has-goes_on+in_ok-follow w ↦
          underway-as c.args.function.now c.args.direction (is_closed c.args.limits.now c.args.goes_on) c.args.marks.now c.args.found.now.items w.follow.new.marks c.if-has-goes_on.marks w.follow.new.found.items c.if-has-goes_on.found.items _
          w.marks-is (ap (λ v. v.items) w.found-is)
          (underway-open c.args.function.now c.args.direction (is_closed c.args.limits.now c.args.goes_on) c.args.marks.now c.args.found.now.items c.loop-at.marks c.loop-at.found.items w.follow.new.marks w.follow.new.found.items c.loop-at.at c.index-point.result.now
          (let len = c.len.ensures in let lt = c.loop-at-test.true in omega (arith, len, lt))
          c.index-point.ensures (goes-on c.args.limits.now c.args.goes_on c.index-point.result.now c.has.result c.has.ensures w.if-has-goes_on.true) w.in_ok-follow.ensures c.loop-at.invariant)
      | else-has-goes_on w ↦
          underway-as c.args.function.now c.args.direction (is_closed c.args.limits.now c.args.goes_on) c.args.marks.now c.args.found.now.items c.loop-at.marks c.if-has-goes_on.marks c.loop-at.found.items c.if-has-goes_on.found.items _
          w.marks-is (ap (λ v. v.items) w.found-is)
          (underway-closed c.args.function.now c.args.direction (is_closed c.args.limits.now c.args.goes_on) c.args.marks.now c.args.found.now.items c.loop-at.marks c.loop-at.found.items c.loop-at.at c.index-point.result.now
          (let len = c.len.ensures in let lt = c.loop-at-test.true in omega (arith, len, lt))
          c.index-point.ensures (goes-not-on c.args.limits.now c.args.goes_on c.index-point.result.now c.has.result c.has.ensures w.if-has-goes_on.false) c.loop-at.invariant)
    ]

pub loop-at-smaller : goal.loop-at-smaller
loop-at-smaller c =
    elim c.if-has-goes_on.branch [
      | then-has-goes_on+in_ok-follow w ↦
          left-as w.follow.new.marks c.if-has-goes_on.marks w.follow.new.found.items c.if-has-goes_on.found.items _ _
          w.marks-is (ap (λ v. v.items) w.found-is)
          (left-open (adjoins c.args.function.now c.args.direction c.index-point.result.now) c.loop-at.marks c.loop-at.found.items w.follow.new.marks w.follow.new.found.items c.loop-at.at
          (let len = c.len.ensures in let lt = c.loop-at-test.true in omega (arith, len, lt)) w.in_ok-follow.ensures)
      | else-has-goes_on w ↦
          left-as c.loop-at.marks c.if-has-goes_on.marks c.loop-at.found.items c.if-has-goes_on.found.items _ _
          w.marks-is (ap (λ v. v.items) w.found-is)
          (left-closed c.loop-at.marks c.loop-at.found.items c.loop-at.at
          (let len = c.len.ensures in let lt = c.loop-at-test.true in omega (arith, len, lt)))
    ]

pub returns : goal.returns
returns c = settled-all c.args.function.now c.args.direction (is_closed c.args.limits.now c.args.goes_on) c.args.marks.now c.args.found.now.items c.loop-at.marks c.loop-at.found.items c.loop-at.at (let len = c.len.ensures in let le = c.loop-at-test.false in omega (arith, len, le)) c.loop-at.invariant
