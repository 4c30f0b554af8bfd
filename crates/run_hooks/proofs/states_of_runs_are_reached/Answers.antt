use Rattle.std.proofs.Common.{subst, sym}
use Rattle.pass_renewed_proof.specs.pass_kept_proof.Kept.{continue_keeping}
use Rattle.pass_renewed_proof.specs.Renewed.{renewed_step}
use Rattle.pass_renewed_proof.specs.run_framed.Framed.{framed_step}
use Rattle.run_hooks.proofs.Keeping.{framed_keeps, kept_keeps, renewed_keeps, source_keeps}
use Rattle.run_hooks.proofs.Reaching.{states_reached}
use Rattle.run_hooks.proofs.Steps.{framed_steps, renewed_steps, same_runs, source_step}
use Rattle.run_hooks.proofs.states_of_runs_are_reached.Goals as goal
use Rattle.run_hooks.specs.Hooks.{step_of}
use Rattle.run_hooks.specs.Meanings.{framed_hooks, kept_hooks, renewed_hooks, source_hooks}
use Rattle.run_hooks.specs.Reached.{IsReachedState}
use Rattle.pass_renewed_proof.specs.run_source.Source.{continue, first_state, step, step_by}

pub returns-clause-source : goal.returns-clause-source
returns-clause-source c =
    λ g entry args n ok.
    let e = same_runs (step g) (step_of (source_hooks g)) (source_step g (continue g)) n
    (first_state g.code entry args) in
    subst (IsReachedState g) (sym e) (states_reached (source_hooks g) ok (source_keeps g) entry args n)

pub returns-clause-kept : goal.returns-clause-kept
returns-clause-kept c =
    λ g keep entry args n ok.
    let e = same_runs (step_by g (continue_keeping g keep)) (step_of (kept_hooks g keep))
    (source_step g (continue_keeping g keep)) n (first_state g.code entry args) in
    subst (IsReachedState g) (sym e) (states_reached (kept_hooks g keep) ok (kept_keeps g keep) entry args n)

pub returns-clause-renewed : goal.returns-clause-renewed
returns-clause-renewed c =
    λ g entry args n ok.
    let e = same_runs (renewed_step g) (step_of (renewed_hooks g)) (renewed_steps g) n
    (first_state g.given.code entry args) in
    subst (IsReachedState g.given) (sym e) (states_reached (renewed_hooks g) ok (renewed_keeps g) entry args n)

pub returns-clause-framed : goal.returns-clause-framed
returns-clause-framed c =
    λ g entry args n ok.
    let e = same_runs (framed_step g) (step_of (framed_hooks g)) (framed_steps g) n
    (first_state g.given.code entry args) in
    subst (IsReachedState g.given) (sym e) (states_reached (framed_hooks g) ok (framed_keeps g) entry args n)
