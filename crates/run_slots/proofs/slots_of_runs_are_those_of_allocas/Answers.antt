use Rattle.std.proofs.Common.{subst, sym}
use Rattle.run_hooks.specs.pass_kept_proof.Kept.{continue_keeping}
use Rattle.run_hooks.specs.pass_renewed_proof.Renewed.{renewed_step}
use Rattle.run_hooks.specs.run_framed.Framed.{framed_step}
use Rattle.run_hooks.proofs.Keeping.{framed_keeps, kept_keeps, renewed_keeps, source_keeps}
use Rattle.run_hooks.proofs.Reaching.{states_reached}
use Rattle.run_hooks.proofs.Steps.{framed_steps, renewed_steps, same_runs, source_step}
use Rattle.run_hooks.specs.Hooks.{step_of}
use Rattle.run_hooks.specs.Meanings.{framed_hooks, kept_hooks, renewed_hooks, source_hooks}
use Rattle.run_slots.proofs.Made.{states_made}
use Rattle.run_slots.proofs.MadeMeanings.{framed_keeps_made, kept_keeps_made, renewed_keeps_made, source_keeps_made}
use Rattle.run_slots.proofs.slots_of_runs_are_those_of_allocas.Goals as goal
use Rattle.run_slots.specs.Made.{IsMadeState}
use Rattle.run_hooks.specs.run_source.Source.{continue, first_state, step, step_by}

pub returns-clause-source : goal.returns-clause-source
returns-clause-source c =
    λ g entry args n ok.
    let e = same_runs (step g) (step_of (source_hooks g)) (source_step g (continue g)) n
    (first_state g.code entry args) in
    subst (IsMadeState g.code) (sym e) (states_made (source_hooks g) (source_keeps_made g) entry args
    (λ k. states_reached (source_hooks g) ok (source_keeps g) entry args k) n)

pub returns-clause-kept : goal.returns-clause-kept
returns-clause-kept c =
    λ g keep entry args n ok.
    let e = same_runs (step_by g (continue_keeping g keep)) (step_of (kept_hooks g keep))
    (source_step g (continue_keeping g keep)) n (first_state g.code entry args) in
    subst (IsMadeState g.code) (sym e) (states_made (kept_hooks g keep) (kept_keeps_made g keep) entry args
    (λ k. states_reached (kept_hooks g keep) ok (kept_keeps g keep) entry args k) n)

pub returns-clause-renewed : goal.returns-clause-renewed
returns-clause-renewed c =
    λ g entry args n ok.
    let e = same_runs (renewed_step g) (step_of (renewed_hooks g)) (renewed_steps g) n
    (first_state g.given.code entry args) in
    subst (IsMadeState g.given.code) (sym e) (states_made (renewed_hooks g) (renewed_keeps_made g) entry args
    (λ k. states_reached (renewed_hooks g) ok (renewed_keeps g) entry args k) n)

pub returns-clause-framed : goal.returns-clause-framed
returns-clause-framed c =
    λ g entry args n ok.
    let e = same_runs (framed_step g) (step_of (framed_hooks g)) (framed_steps g) n
    (first_state g.given.code entry args) in
    subst (IsMadeState g.given.code) (sym e) (states_made (framed_hooks g) (framed_keeps_made g) entry args
    (λ k. states_reached (framed_hooks g) ok (framed_keeps g) entry args k) n)
