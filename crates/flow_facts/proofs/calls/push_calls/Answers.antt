use Rattle.std.proofs.Common.{◌∙◌, sym}
use Rattle.flow_points.specs.ir_paths.Windows.{is_call_of}
use Rattle.flow_facts.proofs.Points.{pushed-none, pushed-one}
use Rattle.flow_facts.proofs.calls.push_calls.Goals as goal
use Rattle.flow_facts.proofs.calls.push_calls.Goals.{else-is_call_of, then-is_call_of+in_ok-push}

pub loop-at-preserved : goal.loop-at-preserved
loop-at-preserved c =
    elim c.if-is_call_of.branch [
      | then-is_call_of+in_ok-push w ↦
          w.all-is ∙ w.in_ok-push.ensures.ok
          ∙ pushed-one (is_call_of c.args.intrinsic) c.args.block c.args.instrs.now c.loop-at.at c.index-instrs-at.result c.args.all.now c.loop-at.all c.loop-at-test.true c.index-instrs-at.is (sym c.is_call_of.ensures ∙ w.if-is_call_of.true) c.loop-at.invariant
      | else-is_call_of w ↦
          w.all-is
          ∙ pushed-none (is_call_of c.args.intrinsic) c.args.block c.args.instrs.now c.loop-at.at c.index-instrs-at.result c.args.all.now c.loop-at.all c.loop-at-test.true c.index-instrs-at.is (sym c.is_call_of.ensures ∙ w.if-is_call_of.false) c.loop-at.invariant
    ]
