use Rattle.std.proofs.Common.{◌≡◌, ◌∙◌, ap}
use Rattle.run_step.specs.Runs.{iterate}
use Rattle.run_plain.specs.Machines.{PlainRun}
use Rattle.run_plain.specs.Plain.{PlainGiven, plain_first, plain_state_at, plain_step}
use Rattle.run_plain.specs.declared.state.PlainState.{PlainState}
use Rattle.run_plain.proofs.Iterating.{iterate-more}
use Rattle.run_plain.proofs.machine.PlainMachine.run.Goals as goal

pub returns-clause-seen : goal.returns-clause-seen
returns-clause-seen c = λ g entry args k h.
    let is = ap (λ (r : PlainRun). r.given) h in
    let at = ap (λ (r : PlainRun). r.state) h in
    ap (λ (s : PlainState). s.outcome)
    (c.in_ok-run_state.ensures.done
    ∙ ap (λ (x : PlainGiven). iterate (plain_step x) c.args.n c.args.self.now.state) is
    ∙ ap (λ (s : PlainState). iterate (plain_step g) c.args.n s) at
    ∙ iterate-more (plain_step g) k c.args.n (plain_first g.code entry args))
