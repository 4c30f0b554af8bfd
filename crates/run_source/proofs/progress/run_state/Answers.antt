use Rattle.std.proofs.Common.{◌≡◌, ◌∙◌, ap, sym, arith}
use Rattle.run_source.specs.Source.{step}
use Rattle.run_source.specs.SourceEffects.{given_of}
use Rattle.run_source.specs.declared.state.State.{State}
use Rattle.run_source.proofs.Iterating.{iterate-next, over}
use Rattle.run_source.proofs.progress.run_state.Goals as goal

pub returns-then-is_over-clause-done : goal.returns-then-is_over-clause-done
returns-then-is_over-clause-done c =
    over (given_of c.args.given.now) c.loop-made.made c.args.n c.args.state.now c.loop-made.state (omega (arith, c.loop-made-test.true)) c.loop-made.invariant (sym c.is_over.ensures ∙ c.if-is_over.true)

pub loop-made-preserved : goal.loop-made-preserved
loop-made-preserved c =
    let g = given_of c.args.given.now in
    c.in_ok-step_state.ensures.done
    ∙ ap (λ (s : State). step g s) c.loop-made.invariant
    ∙ iterate-next (step g) c.loop-made.made c.args.state.now
