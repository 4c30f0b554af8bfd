-- A checked run is the framed run as long as it isn't undefined.
use Rattle.std.proofs.Common.{◌≡◌, ◌<◌, ◌∙◌, ◌⊎◌, ⊎_elim, inl, inr, ℕ, zero, suc, Bool, true, false, List, ap, refl, subst, sym}
use Rattle.std.specs.Prelude.{if◌then◌else◌}
use Rattle.pass_elide_proof.proofs.PlacingFacts.{by_truth}
use Rattle.pass_elide_proof.specs.Checked.{checked_run, checked_step, failed_by}
use Rattle.pass_elide_proof.specs.Counts.{uncounted}
use Rattle.pass_elide_proof.specs.Elision.{Elision, framed}
use Rattle.pass_elide_proof.specs.Statement.{framed_run}
use Rattle.pass_proofs.proofs.run_agreement.PricedLockstep.{AdvanceBy, IsPassed}
use Rattle.pass_proofs.proofs.run_agreement.Runs.{fine_earlier, running_or}
use Rattle.pass_proofs.specs.ir_base.declared.outcome.Outcome.{Outcome}
use Rattle.pass_proofs.specs.ir_base.declared.outcome.Word.{Word}
use Rattle.pass_proofs.specs.run_agreement.Machines.{IsFine, IsRunning, Machine, iterate, state_at}
use Rattle.pass_proofs.specs.run_framed.Framed.{FramedGiven, framed_advance, framed_step}
use Rattle.pass_proofs.specs.run_source.declared.state.State.{State}

-- ---- one step

-- a run that is over stays as it is
pub framed_stays : (g : FramedGiven) (s : State) → (IsRunning s.outcome → ⊥) → framed_step g s ≡ s
framed_stays g s over = on s.outcome refl
  where
    on : (o : Outcome) → s.outcome ≡ o → framed_step g s ≡ s
    on (Outcome.Returned v) e = ap (framed_advance g s) e
    on Outcome.Running e = absurd (over (subst IsRunning (sym e) tt))
    on (Outcome.Undefined cause place) e = ap (framed_advance g s) e

module _ (e : Elision) (passes : State → Bool) where
  fails : (s : State) (o : Outcome) → IsRunning o → IsFine (failed_by e s o).outcome → ⊥
  fails s (Outcome.Returned v) runs fine = runs
  fails s Outcome.Running runs fine = fine
  fails s (Outcome.Undefined cause place) runs fine = runs

  fails_still : (s : State) → (IsRunning s.outcome → ⊥) → failed_by e s s.outcome ≡ s
  fails_still s over = on s.outcome refl
    where
      on : (o : Outcome) → s.outcome ≡ o → failed_by e s s.outcome ≡ s
      on (Outcome.Returned v) is = ap (failed_by e s) is
      on Outcome.Running is = absurd (over (subst IsRunning (sym is) tt))
      on (Outcome.Undefined cause place) is = ap (failed_by e s) is

  -- from a state that passes it is the framed step
  pub checked_is : (s : State) → passes s ≡ true → checked_step e passes s ≡ framed_step (framed e) s
  checked_is s is = ap (λ (b : Bool). if b then framed_step (framed e) s else failed_by e s s.outcome) is

  checked_fails : (s : State) → passes s ≡ false → checked_step e passes s ≡ failed_by e s s.outcome
  checked_fails s not = ap (λ (b : Bool). if b then framed_step (framed e) s else failed_by e s s.outcome) not

  -- a step from a running state that isn't undefined shows that the state passes
  pub fine_passes : (s : State) → IsRunning s.outcome → IsFine (checked_step e passes s).outcome → passes s ≡ true
  fine_passes s runs fine =
      by_truth (passes s) (λ is. is)
      (λ not. absurd (fails s s.outcome runs (subst (λ (z : State). IsFine z.outcome) (checked_fails s not) fine)))

  pub checked_stays : (s : State) → (IsRunning s.outcome → ⊥) → checked_step e passes s ≡ s
  checked_stays s over =
      by_truth (passes s) (λ is. checked_is s is ∙ framed_stays (framed e) s over)
      (λ not. checked_fails s not ∙ fails_still s over)

  -- as long as it isn't undefined it is the framed step
  pub fine_is : (s : State) → IsFine (checked_step e passes s).outcome
      → checked_step e passes s ≡ framed_step (framed e) s
  fine_is s fine =
      ⊎_elim (λ runs. checked_is s (fine_passes s runs fine))
      (λ over. checked_stays s over ∙ sym (framed_stays (framed e) s over)) (running_or s.outcome)

  -- ---- runs

  module _ (entry : ℕ) (args : List Word) where
    same_from : (n : ℕ) (s : State) → IsFine (iterate (checked_step e passes) n s).outcome
        → iterate (checked_step e passes) n s ≡ iterate (framed_step (framed e)) n s
    same_from zero s fine = refl
    same_from (suc n) s fine =
        let next = fine_is s (fine_earlier (checked_run e passes entry args) checked_stays n (checked_step e passes s) fine) in
        same_from n (checked_step e passes s) fine ∙ ap (iterate (framed_step (framed e)) n) next

    pub checked_at : (n : ℕ) → IsFine (state_at (checked_run e passes entry args) n).outcome
        → state_at (checked_run e passes entry args) n ≡ state_at (framed_run e entry args) n
    checked_at n fine = same_from n (framed_run e entry args).start fine

    -- ---- the lockstep lemma

    abbrev Framed : Machine State
    Framed = uncounted (framed_run e entry args)

    abbrev Checked : Machine State
    Checked = uncounted (checked_run e passes entry args)

    module _ {T : Type 0} (price : State → ℕ) (b : Machine T) (cost : T → ℕ) (R : ℕ → State → T → Type 0)
        (V : State → T → Type 0) (left : State → ℕ) (c : ℕ) (s : State) (t : T) (is : passes s ≡ true) where
      same : checked_step e passes s ≡ framed_step (framed e) s
      same = checked_is s is

      passed : (z : State) (u : T) → IsPassed Framed b V z u → IsPassed Checked b V z u
      passed z u p = record { runs = p.runs; events = p.events; holds = p.holds }

      -- what advances beside the framed run advances beside the checked one
      pub checked_advance : AdvanceBy (uncounted (framed_run e entry args)) price b cost R V left c s t
          → AdvanceBy (uncounted (checked_run e passes entry args)) price b cost R V left c s t
      checked_advance h = record {
        steps = h.steps;
        credit = h.credit;
        few = h.few;
        goes_on = ⊎_elim (λ some. inl some) (λ less. inr (subst (λ (z : State). left z < left s) (sym same) less))
            h.goes_on;
        between = λ i low high. ⊎_elim (λ p. inl (passed s (iterate b.step i t) p))
            (λ p. inr (subst (λ (z : State). IsPassed Checked b V z (iterate b.step i t)) (sym same)
            (passed (framed_step (framed e) s) (iterate b.step i t) p))) (h.between i low high);
        related = subst (λ (z : State). R h.credit z (iterate b.step h.steps t)) (sym same) h.related;
      }
