-- Where each step is followed both runs agree by costs.
use Rattle.std.proofs.Common.{◌≡◌, ℕ, ◌+◌, ◌≤◌, inl, inr, List, map, refl, sym, ap, ◌∙◌, subst, arith}
use Rattle.std.specs.Prelude.{ℤ}
use Rattle.run_types.specs.ir_base.declared.outcome.Outcome.{Outcome}
use Rattle.run_types.specs.ir_base.declared.outcome.Word.{Word}
use Rattle.run_types.specs.ir_model.declared.module.Frame.{Frame}
use Rattle.run_types.specs.ir_model.declared.module.Module.{Module}
use Rattle.run_types.specs.pass_kept_proof.Kept.{Keep, continue_keeping}
use Rattle.run_types.specs.pass_kept_proof.Machines.{kept_machine}
use Rattle.pass_renewed_meaning.proofs.Alike.{beside_alike, same_events}
use Rattle.pass_renewed_meaning.specs.Followed.{AreAlike, AreInStep, AreStepsFollowed, Ended, Goes}
use Rattle.pass_renewed_meaning.specs.Followed.{IsFollowed, IsOnItsWay, KeepsMeaning}
use Rattle.run_types.specs.pass_renewed_proof.Beside.{IsBeside}
use Rattle.run_types.specs.pass_renewed_proof.Prices.{Prices, kept_price, renewed_machine, renewed_price}
use Rattle.run_types.specs.pass_renewed_proof.Renewed.{Flags, RenewedGiven, Roots, renewed_advance, renewed_given, renewed_step}
use Rattle.run_types.proofs.run_agreement.Costs.{weaken_by}
use Rattle.run_types.proofs.run_agreement.PricedLockstep.{AdvanceBy, IsPassed, SimulatesBy, lockstep_by}
use Rattle.run_types.proofs.run_agreement.Runs.{iterate-add}
use Rattle.run_types.proofs.run_agreement.Shows.{ShowsSame}
use Rattle.run_types.specs.run_agreement.Machines.{IsFine, IsRunning, Machine, Seen, state_at}
use Rattle.run_types.specs.run_source.Source.{Continues, advance_by, first_state, given, step_by}
use Rattle.run_types.specs.run_source.declared.state.State.{State}
use Rattle.run_types.specs.run_source_tables.Given.{Given}
use Rattle.run_types.specs.run_step.Runs.{seen_event}

-- ---- runs that are over

running_is : (o : Outcome) → IsRunning o → o ≡ Outcome.Running
running_is (Outcome.Returned v) h = absurd h
running_is Outcome.Running h = refl
running_is (Outcome.Undefined c p) h = absurd h

pub kept_stays : (g : Given) (go : Continues) (s : State) → (IsRunning s.outcome → ⊥) → step_by g go s ≡ s
kept_stays g go s over = on s.outcome refl
  where
    on : (o : Outcome) → s.outcome ≡ o → step_by g go s ≡ s
    on (Outcome.Returned v) e = ap (advance_by g go s) e
    on Outcome.Running e = absurd (over (subst IsRunning (sym e) tt))
    on (Outcome.Undefined c p) e = ap (advance_by g go s) e

renewed_stays : (h : RenewedGiven) (t : State) → (IsRunning t.outcome → ⊥) → renewed_step h t ≡ t
renewed_stays h t over = on t.outcome refl
  where
    on : (o : Outcome) → t.outcome ≡ o → renewed_step h t ≡ t
    on (Outcome.Returned v) e = ap (renewed_advance h t) e
    on Outcome.Running e = absurd (over (subst IsRunning (sym e) tt))
    on (Outcome.Undefined c p) e = ap (renewed_advance h t) e

zero_low : 0 ≤ 0
zero_low = omega arith

no_credit : (n k c : ℕ) → n ≤ k → n + 0 ≤ k + c
no_credit n k c le = omega arith

module _ (m : Module) (keep : Keep) (flags : Flags) (roots : Roots) (sizes : List Frame) (entry : ℕ) (args : List Word)
    (answers : List ℤ) (p : Prices) where
  abbrev g : Given
  g = given m sizes answers

  abbrev h : RenewedGiven
  h = renewed_given m keep flags roots sizes answers

  abbrev ours : Machine State
  ours = kept_machine m keep sizes entry args answers

  abbrev theirs : Machine State
  theirs = renewed_machine m keep flags roots sizes entry args answers

  -- ---- what is shown

  pub alike : (s t : State) → AreInStep m flags roots s t → AreAlike s t
  alike s t (Goes b) = beside_alike m flags roots s t b
  alike s t (Ended e) = e.alike

  pub shows : (s t : State) → AreInStep m flags roots s t → ShowsSame (theirs.seen t) (ours.seen s)
  shows s t (Goes b) = record {
    events = ap (map (seen_event m)) (b.world.events ∙ same_events s.world.events);
    outcome = b.outcome;
  }
  shows s t (Ended e) = record {
    events = ap (λ (u : Seen). u.events) e.shown;
    outcome = ap (λ (u : Seen). u.outcome) e.shown;
  }

  pub counts : (s t : State) → AreInStep m flags roots s t → (ours.seen s).allocs ≡ (theirs.seen t).allocs
  counts s t (Goes b) = sym b.world.allocs
  counts s t (Ended e) = sym (ap (λ (u : Seen). u.allocs) e.shown)

  -- ---- one step

  -- in step with a state that the first run comes to
  record IsKept (c : ℕ) (s t : State) : Type 0 where
    related : AreInStep m flags roots s t
    index : ℕ
    reached : s ≡ state_at (kept_machine m keep sizes entry args answers) index

  passed : (s t : State) → IsOnItsWay s t → IsPassed ours theirs AreAlike s t
  passed s t w = record { runs = w.running; events = ap (map (seen_event m)) w.events; holds = w.alike }

  module _ (all : AreStepsFollowed m keep flags roots sizes entry args answers p) where
    beside_of : (s t : State) → AreInStep m flags roots s t → IsRunning s.outcome → IsBeside m flags roots s t
    beside_of s t (Goes b) runs = b
    beside_of s t (Ended e) runs = absurd (e.over runs)

    followed : (s t : State) (index : ℕ) → s ≡ state_at (kept_machine m keep sizes entry args answers) index
        → IsBeside m flags roots s t → s.outcome ≡ Outcome.Running
        → IsFine (step_by (given m sizes answers) (continue_keeping (given m sizes answers) keep) s).outcome
        → IsFollowed (given m sizes answers) (renewed_given m keep flags roots sizes answers) p s t
    followed s t index reached = subst (λ (x : State). IsBeside m flags roots x t → x.outcome ≡ Outcome.Running
        → IsFine (step_by g (continue_keeping g keep) x).outcome → IsFollowed g h p x t) (sym reached) (all index t)

    advances : (c : ℕ) (s t : State) → IsKept c s t → IsRunning s.outcome
        → IsFine (step_by (given m sizes answers) (continue_keeping (given m sizes answers) keep) s).outcome
        → AdvanceBy ours (kept_price p flags g) theirs (renewed_price p h.given) IsKept AreAlike (λ s. 0) c s t
    advances c s t r runs fine =
        let f = followed s t r.index r.reached (beside_of s t r.related runs) (running_is s.outcome runs) fine in
        record {
          steps = f.steps;
          credit = 0;
          few = no_credit _ (kept_price p flags g s) c f.few;
          goes_on = inl f.some;
          between = λ i pos lt. inr (passed _ _ (f.between i pos lt));
          related = record {
            related = f.related;
            index = r.index + 1;
            reached = ap (step_by g (continue_keeping g keep)) r.reached ∙ sym (iterate-add (step_by g (continue_keeping
                g keep)) r.index 1 (first_state m entry args));
          };
        }

    simulates : IsBeside m flags roots (first_state m entry args) (first_state m entry args)
        → SimulatesBy ours (kept_price p flags g) theirs (renewed_price p h.given) IsKept AreAlike (λ s. 0)
    simulates start = record {
      begin = record { related = Goes start; index = 0; reached = refl };
      same = λ c s t k. shows s t k.related;
      counts = λ c s t k. counts s t k.related;
      holds = λ c s t k. alike s t k.related;
      advance = advances;
      stays_a = kept_stays g (continue_keeping g keep);
      stays_b = renewed_stays h;
    }

    pub assembled : IsBeside m flags roots (first_state m entry args) (first_state m entry args)
        → KeepsMeaning m keep flags roots sizes entry args answers p
    assembled start = weaken_by (λ s t. (c : ℕ) × IsKept c s t) AreAlike (AreInStep m flags roots) AreAlike
        ours (kept_price p flags g) (kept_price p flags g) theirs (renewed_price p h.given) (renewed_price p h.given)
        (λ s t k. k.1.related) (λ s t v. v) (λ n fine. omega arith) (λ n. omega arith)
        (lockstep_by ours (kept_price p flags g) theirs (renewed_price p h.given) IsKept AreAlike (λ s. 0) (simulates
        start))
