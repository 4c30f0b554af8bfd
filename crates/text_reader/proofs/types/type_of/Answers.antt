use Rattle.text_reader.proofs.TypeSteps.{type_begun, inside_turn_last, whole_turn_last}
use Rattle.text_reader.proofs.types.type_of.Goals as goal
use Rattle.text_reader.proofs.types.type_of.Goals.{in-Inside+in_ok-push-in-Inside+in_ok-begin_of-in-Inside, in-Whole+in-Some+in_ok-next-in-Some}

pub loop-step-init : goal.loop-step-init
loop-step-init c = rw c.new-outers.ensures.items (type_begun c.args.symbols.now _ c.in_ok-step.ensures.value)

pub loop-step-preserved : goal.loop-step-preserved
loop-step-preserved c =
    elim c.match-step.branch [
      | in-Inside+in_ok-push-in-Inside+in_ok-begin_of-in-Inside w ↦
          rw (w.next-is, w.outers-is)
          (inside_turn_last _ c.loop-step.outers.items _ c.loop-step.step w.in-Inside.outer c.loop-step.rest.now _ c.loop-step.invariant w.in-Inside.is w.in_ok-push-in-Inside.ensures.items w.in_ok-begin_of-in-Inside.ensures.value)
      | in-Whole+in-Some+in_ok-next-in-Some w ↦
          rw (w.next-is, w.outers-is)
          (whole_turn_last _ c.loop-step.outers.items _ c.loop-step.step w.in-Whole.ty w.in-Some.outer c.loop-step.rest.now _ c.loop-step.invariant w.in-Whole.is w.in-Some.ensures.items w.in_ok-next-in-Some.ensures.value)
    ]
