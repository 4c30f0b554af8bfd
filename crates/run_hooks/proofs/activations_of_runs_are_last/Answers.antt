use Rattle.std.proofs.Common.{subst, sym}
use Rattle.pass_renewed_proof.specs.pass_kept_proof.Kept.{continue_keeping}
use Rattle.pass_renewed_proof.specs.Renewed.{renewed_step}
use Rattle.pass_renewed_proof.specs.run_framed.Framed.{framed_step}
use Rattle.run_hooks.proofs.Left.{states_last}
use Rattle.run_hooks.proofs.LeftKeeping.{framed_keeps_last, kept_keeps_last, renewed_keeps_last, source_keeps_last}
use Rattle.run_hooks.proofs.Steps.{framed_steps, renewed_steps, same_runs, source_step}
use Rattle.run_hooks.proofs.activations_of_runs_are_last.Goals as goal
use Rattle.run_hooks.specs.Hooks.{step_of}
use Rattle.run_hooks.specs.Left.{IsLastState}
use Rattle.run_hooks.specs.Meanings.{framed_hooks, kept_hooks, renewed_hooks, source_hooks}
use Rattle.pass_renewed_proof.specs.run_source.Source.{continue, first_state, step, step_by}
use Rattle.pass_renewed_proof.specs.run_source.declared.state.State.{State}

pub returns-clause-source : goal.returns-clause-source
returns-clause-source c =
    λ g entry args n.
    let e = same_runs (step g) (step_of (source_hooks g)) (source_step g (continue g)) n
    (first_state g.code entry args) in
    subst (λ (s : State). IsLastState s) (sym e) (states_last (source_hooks g) (source_keeps_last g) entry args n)

pub returns-clause-kept : goal.returns-clause-kept
returns-clause-kept c =
    λ g keep entry args n.
    let e = same_runs (step_by g (continue_keeping g keep)) (step_of (kept_hooks g keep))
    (source_step g (continue_keeping g keep)) n (first_state g.code entry args) in
    subst (λ (s : State). IsLastState s) (sym e)
    (states_last (kept_hooks g keep) (kept_keeps_last g keep) entry args n)

pub returns-clause-renewed : goal.returns-clause-renewed
returns-clause-renewed c =
    λ g entry args n.
    let e = same_runs (renewed_step g) (step_of (renewed_hooks g)) (renewed_steps g) n
    (first_state g.given.code entry args) in
    subst (λ (s : State). IsLastState s) (sym e) (states_last (renewed_hooks g) (renewed_keeps_last g) entry args n)

pub returns-clause-framed : goal.returns-clause-framed
returns-clause-framed c =
    λ g entry args n.
    let e = same_runs (framed_step g) (step_of (framed_hooks g)) (framed_steps g) n
    (first_state g.given.code entry args) in
    subst (λ (s : State). IsLastState s) (sym e) (states_last (framed_hooks g) (framed_keeps_last g) entry args n)
