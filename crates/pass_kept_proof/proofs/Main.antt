-- A resume needs no more than the values that cross its suspend.
use Rattle.std.proofs.Common.{◌≡◌, ℕ, inl, List, [], Result, Ok, Err, refl, sym, ap, ◌∙◌, subst, arith, ℤ}
use Rattle.pass_kept_proof.specs.SuspendRules.{AllKeepSuspendRules, KeepsNeeded}
use Rattle.pass_kept_proof.specs.Kept.{Keep, KeptAt, continue_keeping}
use Rattle.pass_kept_proof.specs.Needed.{first}
use Rattle.pass_kept_proof.proofs.Actions.{work}
use Rattle.pass_kept_proof.proofs.Related.{Goes, Related, like}
use Rattle.pass_kept_proof.proofs.Same.{same_all}
use Rattle.pass_kept_proof.proofs.Simulation.{acts_go}
use Rattle.pass_kept_proof.proofs.Sound.{IsSound, Stays, holds_of, source_stays}
use Rattle.pass_kept_proof.proofs.Walks.{saves_enough}
use Rattle.run_agreement.proofs.Lockstep.{ShowsSame, Simulates, lockstep_one, lockstep_within}
use Rattle.run_agreement.specs.Agreements.{AgreesWithin}
use Rattle.run_agreement.specs.Costs.{AgreesBy}
use Rattle.run_agreement.specs.Machines.{IsFine, IsRunning, Machine}
use Rattle.ir_base.specs.declared.cause.Cause.{Cause}
use Rattle.ir_base.specs.declared.outcome.Outcome.{Outcome}
use Rattle.ir_base.specs.declared.outcome.Word.{Word}
use Rattle.run_source.specs.Source.{SourceAt, act, advance_by, context_of, continue, first_state, given, step, step_by}
use Rattle.run_source.specs.State.{function_of, or_undefined, work_of}
use Rattle.run_source.specs.declared.state.State.{State}
use Rattle.ir_model.specs.declared.module.Frame.{Frame}
use Rattle.ir_model.specs.declared.module.Module.{Module}
use Rattle.run_step.specs.Runs.{seen_of}
use Rattle.run_step.specs.Step.{action_of, fetch}
use Rattle.run_source.specs.run_source_tables.Given.{Given}

is_running : (o : Outcome) → IsRunning o → o ≡ Outcome.Running
is_running Outcome.Running h = refl
is_running (Outcome.Returned v) h = absurd h
is_running (Outcome.Undefined cause place) h = absurd h

or_related : (g : Given) (s t : State) (r r' : Result State Cause) → Goes g r r' → IsFine (or_undefined g s r).outcome → Related g (or_undefined g s r) (or_undefined g t r')
or_related g s t (Err cause) r' h fine = absurd fine
or_related g s t (Ok s') (Err cause) h fine = absurd h
or_related g s t (Ok s') (Ok t') h fine = h

or_sound : (g : Given) (s : State) (r : Result State Cause) → Stays g r → IsFine (or_undefined g s r).outcome → IsSound g (or_undefined g s r)
or_sound g s (Err cause) h fine = absurd fine
or_sound g s (Ok s') h fine = h

module _ (m : Module) (keep : Keep) (sizes : List Frame) (entry : ℕ) (args : List Word) (answers : List ℤ) (ok : AllKeepSuspendRules m) (keeps : KeepsNeeded m keep) where
  abbrev g : Given
  g = given m sizes answers

  abbrev source : Machine State
  source = record { start = first_state m entry args; step = step g; seen = λ s. seen_of m s.world s.outcome }

  abbrev keeping : Machine State
  keeping = record { start = first_state m entry args; step = step_by g (continue_keeping g keep); seen = λ s. seen_of m s.world s.outcome }

  abbrev R : State → State → Type 0
  R s t = Related g s t × IsSound g s

  next_related : (s t : State) → R s t → s.outcome ≡ Outcome.Running → IsFine (step g s).outcome → R (step g s) (step_by g (continue_keeping g keep) t)
  next_related s t r runs fine =
      let a = act g (continue g) s (action_of (context_of g s) (work_of s) (fetch (function_of g s) s.top.block s.top.at)) in
      let t' : State = like s r.0.values r.0.below r.0.instances in
      let b = act g (continue_keeping g keep) t' (action_of (context_of g s) (work s.world r.0.values) (fetch (function_of g s) s.top.block s.top.at)) in
      let go : step g s ≡ or_undefined g s a = ap (advance_by g (continue g) s) runs in
      let there : step_by g (continue_keeping g keep) t ≡ or_undefined g t' b = ap (step_by g (continue_keeping g keep)) r.0.is ∙ ap (advance_by g (continue_keeping g keep) t') runs in
      let fine' : IsFine (or_undefined g s a).outcome = subst (λ (z : State). IsFine z.outcome) go fine in
      let goes : Goes g a b = acts_go g keep (λ func. saves_enough _ (ok func)) keeps s (holds_of g s r.1) r.0.values r.0.below r.0.instances r.0.same r.0.acts r.0.insts in (
        subst (λ (z : State). Related g z (step_by g (continue_keeping g keep) t)) (sym go) (subst (Related g (or_undefined g s a)) (sym there) (or_related g s t' a b goes fine')),
        subst (IsSound g) (sym go) (or_sound g s a (source_stays g ok s r.1) fine'),
      )

  stays_source : (s : State) (o : Outcome) → (IsRunning o → ⊥) → advance_by g (continue g) s o ≡ s
  stays_source s Outcome.Running h = absurd (h tt)
  stays_source s (Outcome.Returned v) h = refl
  stays_source s (Outcome.Undefined cause place) h = refl

  stays_keeping : (s : State) (o : Outcome) → (IsRunning o → ⊥) → advance_by g (continue_keeping g keep) s o ≡ s
  stays_keeping s Outcome.Running h = absurd (h tt)
  stays_keeping s (Outcome.Returned v) h = refl
  stays_keeping s (Outcome.Undefined cause place) h = refl

  begins : R (first_state m entry args) (first_state m entry args)
  begins = (
    record { values = _; below = []; instances = []; is = refl; same = same_all _ _; acts = tt; insts = tt },
    record {
      top = record { own = λ i e. absurd (cc); reached = first };
      below = tt;
      instances = tt;
    },
  )

  simulates : Simulates source keeping 1 R (λ s. 0)
  simulates = record {
    begin = begins;
    same = λ s t r. subst (λ (z : State). ShowsSame (keeping.seen z) (source.seen s)) (sym r.0.is) (record { events = refl; outcome = refl });
    advance = λ s t r runs fine. record {
      steps = 1;
      few = omega arith;
      goes_on = inl (omega arith);
      between = λ i lo hi. absurd (omega arith);
      related = next_related s t r (is_running s.outcome runs) fine;
    };
    stays_a = λ s h. stays_source s s.outcome h;
    stays_b = λ s h. stays_keeping s s.outcome h;
  }

  pub kept_agrees : AgreesWithin 1 (SourceAt m sizes entry args answers) (KeptAt m keep sizes entry args answers)
  kept_agrees = lockstep_within source keeping 1 R (λ s. 0) simulates (λ s t r. ap (λ (z : State). z.world.allocs) (sym r.0.is))

  -- by costs, with the relation
  pub kept_corresponds : AgreesBy R R source (λ s. 1) keeping (λ t. 1)
  kept_corresponds = lockstep_one source keeping R (λ s. 0) simulates
      (λ s t r. ap (λ (z : State). z.world.allocs) (sym r.0.is))
