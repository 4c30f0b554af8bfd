use Rattle.std.proofs.Common.{◌∙◌, ap, arith, get_or, sym}
use Rattle.std.specs.Prelude.{filter}
use Rattle.flow_points.specs.Rows.{is_marked}
use Rattle.flow_points.proofs.Inside.{filter-less, filter-more}
use Rattle.flow_points.proofs.Tests.{no_point, read-again, take-all}
use Rattle.flow_points.proofs.graph.marked_among.Goals as goal
use Rattle.flow_points.proofs.graph.marked_among.Goals.{else-has, then-has+in_ok-push}

pub loop-point-preserved : goal.loop-point-preserved
loop-point-preserved c =
    elim c.if-has.branch [
      | then-has+in_ok-push w ↦
          w.all-is ∙ w.in_ok-push.ensures.ok
          ∙ filter-more (is_marked c.args.marks.now) c.args.points.now c.loop-point.point-index (get_or c.args.points.now c.loop-point.point-index no_point) c.loop-point.all c.loop-point-test.true
          (read-again c.args.points.now c.loop-point.point-index no_point c.loop-point-test.true) (sym c.has.ensures ∙ w.if-has.true) c.loop-point.invariant
      | else-has w ↦
          w.all-is
          ∙ filter-less (is_marked c.args.marks.now) c.args.points.now c.loop-point.point-index (get_or c.args.points.now c.loop-point.point-index no_point) c.loop-point.all c.loop-point-test.true
          (read-again c.args.points.now c.loop-point.point-index no_point c.loop-point-test.true) (sym c.has.ensures ∙ w.if-has.false) c.loop-point.invariant
    ]

pub returns : goal.returns
returns c = c.loop-point.invariant ∙ ap (filter (is_marked c.args.marks.now)) (take-all c.args.points.now c.loop-point.point-index (omega arith))
