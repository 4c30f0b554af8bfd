use Rattle.std.proofs.Common.{◌∙◌, ap}
use Rattle.run_source.proofs.Iterating.{iterate-more}
use Rattle.run_source.specs.Source.{first_state}
use Rattle.run_source.specs.declared.state.State.{State}
use Rattle.run_framed.proofs.machine.FramedMachine.run.Goals as goal
use Rattle.run_framed.specs.Framed.{FramedGiven, framed_step}
use Rattle.run_framed.specs.Machines.{FramedRun}
use Rattle.run_step.specs.Runs.{iterate}

pub returns-clause-seen : goal.returns-clause-seen
returns-clause-seen c = λ g entry args k h.
    let is = ap (λ (r : FramedRun). r.given) h in
    let at = ap (λ (r : FramedRun). r.state) h in
    ap (λ (s : State). s.outcome)
    (c.in_ok-run_framed.ensures.done
    ∙ ap (λ (x : FramedGiven). iterate (framed_step x) c.args.n c.args.self.now.state) is
    ∙ ap (λ (s : State). iterate (framed_step g) c.args.n s) at
    ∙ iterate-more (framed_step g) k c.args.n (first_state g.given.code entry args))
