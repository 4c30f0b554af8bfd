use Rattle.std.proofs.Common.{◌∙◌, ap, sym, arith}
use Rattle.run_source.proofs.Iterating.{iterate-next}
use Rattle.run_source.specs.declared.state.State.{State}
use Rattle.run_framed.proofs.Endings.{over}
use Rattle.run_framed.proofs.progress.run_framed.Goals as goal
use Rattle.run_framed.specs.Framed.{framed_step}
use Rattle.run_framed.specs.FramedEffects.{framed_of}

pub returns-then-is_over-clause-done : goal.returns-then-is_over-clause-done
returns-then-is_over-clause-done c =
    over (framed_of c.args.program.now) c.loop-made.made c.args.n c.args.state.now c.loop-made.state (omega (arith, c.loop-made-test.true)) c.loop-made.invariant (sym c.is_over.ensures ∙ c.if-is_over.true)

pub loop-made-preserved : goal.loop-made-preserved
loop-made-preserved c =
    let g = framed_of c.args.program.now in
    c.in_ok-step_framed.ensures.done
    ∙ ap (λ (s : State). framed_step g s) c.loop-made.invariant
    ∙ iterate-next (framed_step g) c.loop-made.made c.args.state.now
