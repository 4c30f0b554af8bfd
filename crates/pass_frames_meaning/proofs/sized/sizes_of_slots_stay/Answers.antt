use Rattle.std.proofs.Common.{subst, sym}
use Rattle.pass_frames_meaning.proofs.sized.Hooks.{kept_keeps_slots, renewed_keeps_slots}
use Rattle.pass_frames_meaning.proofs.sized.Renewed.{kept_keeps_sizes, renewed_keeps_sizes}
use Rattle.pass_frames_meaning.proofs.sized.Sized.{state_sized, states_sized, step_longer}
use Rattle.pass_frames_meaning.proofs.sized.sizes_of_slots_stay.Goals as goal
use Rattle.pass_frames_meaning.specs.Sized.{IsSizedAt, IsSizedState}
use Rattle.pass_frames_proof.specs.pass_kept_proof.Kept.{continue_keeping}
use Rattle.pass_frames_proof.specs.pass_renewed_proof.Renewed.{renewed_step}
use Rattle.pass_renewed_meaning.proofs.run_hooks.Keeping.{kept_keeps, renewed_keeps}
use Rattle.pass_renewed_meaning.proofs.run_hooks.Reaching.{states_reached}
use Rattle.pass_renewed_meaning.proofs.run_hooks.Steps.{renewed_steps, same_runs, source_step}
use Rattle.pass_renewed_meaning.specs.run_hooks.Hooks.{step_of}
use Rattle.pass_renewed_meaning.specs.run_hooks.Meanings.{kept_hooks, renewed_hooks}
use Rattle.pass_frames_proof.specs.run_source.Source.{first_state, step_by}

pub returns-clause-blocks : goal.returns-clause-blocks
returns-clause-blocks c = step_longer

pub returns-clause-step : goal.returns-clause-step
returns-clause-step c = state_sized

pub returns-clause-sizes : goal.returns-clause-sizes
returns-clause-sizes c = renewed_keeps_sizes

pub returns-clause-slots : goal.returns-clause-slots
returns-clause-slots c = λ g sizes. renewed_keeps_slots (IsSizedAt g.given.code sizes) g

pub returns-clause-renewed : goal.returns-clause-renewed
returns-clause-renewed c =
    λ g entry args n ok.
    let e = same_runs (renewed_step g) (step_of (renewed_hooks g)) (renewed_steps g) n
    (first_state g.given.code entry args) in
    subst (IsSizedState g.given.code) (sym e) (states_sized (renewed_hooks g) (renewed_keeps_sizes g)
    (λ u. renewed_keeps_slots (IsSizedAt g.given.code u) g) entry args
    (λ k. states_reached (renewed_hooks g) ok (renewed_keeps g) entry args k) n)

pub returns-clause-kept : goal.returns-clause-kept
returns-clause-kept c =
    λ g keep entry args n ok.
    let e = same_runs (step_by g (continue_keeping g keep)) (step_of (kept_hooks g keep))
    (source_step g (continue_keeping g keep)) n (first_state g.code entry args) in
    subst (IsSizedState g.code) (sym e) (states_sized (kept_hooks g keep) (kept_keeps_sizes g keep)
    (λ u. kept_keeps_slots (IsSizedAt g.code u) g keep) entry args
    (λ k. states_reached (kept_hooks g keep) ok (kept_keeps g keep) entry args k) n)
