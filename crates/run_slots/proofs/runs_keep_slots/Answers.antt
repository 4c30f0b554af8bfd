use Rattle.std.proofs.Common.{subst, sym}
use Rattle.run_hooks.specs.pass_kept_proof.Kept.{continue_keeping}
use Rattle.run_hooks.specs.pass_renewed_proof.Renewed.{renewed_step}
use Rattle.run_hooks.specs.run_framed.Framed.{framed_step}
use Rattle.run_hooks.proofs.Steps.{framed_steps, renewed_steps, same_runs, source_step}
use Rattle.run_hooks.specs.Hooks.{step_of}
use Rattle.run_hooks.specs.Meanings.{framed_hooks, kept_hooks, renewed_hooks, source_hooks}
use Rattle.run_slots.proofs.Meanings.{framed_keeps_slots, kept_keeps_slots, renewed_keeps_slots, source_keeps_slots}
use Rattle.run_slots.proofs.Steps.{states_slotted}
use Rattle.run_slots.proofs.runs_keep_slots.Goals as goal
use Rattle.run_slots.specs.Slots.{IsSlottedState}
use Rattle.run_hooks.specs.run_source.Source.{continue, first_state, step, step_by}

pub returns-clause-source : goal.returns-clause-source
returns-clause-source c =
    λ g entry args n.
    let e = same_runs (step g) (step_of (source_hooks g)) (source_step g (continue g)) n
    (first_state g.code entry args) in
    subst IsSlottedState (sym e) (states_slotted (source_hooks g) (source_keeps_slots g) entry args n)

pub returns-clause-kept : goal.returns-clause-kept
returns-clause-kept c =
    λ g keep entry args n.
    let e = same_runs (step_by g (continue_keeping g keep)) (step_of (kept_hooks g keep))
    (source_step g (continue_keeping g keep)) n (first_state g.code entry args) in
    subst IsSlottedState (sym e) (states_slotted (kept_hooks g keep) (kept_keeps_slots g keep) entry args n)

pub returns-clause-renewed : goal.returns-clause-renewed
returns-clause-renewed c =
    λ g entry args n.
    let e = same_runs (renewed_step g) (step_of (renewed_hooks g)) (renewed_steps g) n
    (first_state g.given.code entry args) in
    subst IsSlottedState (sym e) (states_slotted (renewed_hooks g) (renewed_keeps_slots g) entry args n)

pub returns-clause-framed : goal.returns-clause-framed
returns-clause-framed c =
    λ g entry args n none.
    let e = same_runs (framed_step g) (step_of (framed_hooks g)) (framed_steps g) n
    (first_state g.given.code entry args) in
    subst IsSlottedState (sym e) (states_slotted (framed_hooks g) (framed_keeps_slots g none) entry args n)
