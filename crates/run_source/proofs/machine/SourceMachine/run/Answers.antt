use Rattle.std.proofs.Common.{◌≡◌, ◌∙◌, ap}
use Rattle.run_source_tables.specs.run_step.Runs.{iterate}
use Rattle.run_source.specs.Machines.{SourceRun}
use Rattle.run_source.specs.Source.{first_state, state_at, step}
use Rattle.run_source_tables.specs.Given.{Given}
use Rattle.run_source.specs.declared.state.State.{State}
use Rattle.run_source.proofs.Iterating.{iterate-more}
use Rattle.run_source.proofs.machine.SourceMachine.run.Goals as goal

pub returns-clause-seen : goal.returns-clause-seen
returns-clause-seen c = λ g entry args k h.
    let is = ap (λ (r : SourceRun). r.given) h in
    let at = ap (λ (r : SourceRun). r.state) h in
    ap (λ (s : State). s.outcome)
    (c.in_ok-run_state.ensures.done
    ∙ ap (λ (x : Given). iterate (step x) c.args.n c.args.self.now.state) is
    ∙ ap (λ (s : State). iterate (step g) c.args.n s) at
    ∙ iterate-more (step g) k c.args.n (first_state g.code entry args))
