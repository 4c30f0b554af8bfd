-- What agrees with the framed run agrees with the checked one, if the framed run's states pass.
use Rattle.std.proofs.Common.{◌≡◌, ◌+◌, ◌<◌, ◌≤◌, ◌∙◌, ⊎_elim, ℕ, zero, suc, Bool, true, List, ap, arith, refl, subst, sym}
use Rattle.pass_elide_proof.proofs.Checked.{checked_at, checked_is, checked_stays, framed_stays}
use Rattle.pass_elide_proof.specs.Checked.{checked_run, checked_step}
use Rattle.pass_elide_proof.specs.Elision.{Elision, framed}
use Rattle.pass_elide_proof.specs.Passing.{PassesOn}
use Rattle.pass_elide_proof.specs.Statement.{framed_run}
use Rattle.pass_proofs.proofs.run_agreement.Compose.{returned_fine}
use Rattle.pass_proofs.proofs.run_agreement.Runs.{running_or}
use Rattle.pass_proofs.specs.ir_base.declared.outcome.Word.{Word}
use Rattle.pass_proofs.specs.run_agreement.Agreements.{Follows, HaveSameCounts, NeverUndefined}
use Rattle.pass_proofs.specs.run_agreement.Costs.{AgreesBy, IsMet, IsReached, Reaches, cost_at, cost_from}
use Rattle.pass_proofs.specs.run_agreement.Machines.{IsFine, IsReturned, IsRunning, Machine, at, iterate, state_at}
use Rattle.pass_proofs.specs.run_framed.Framed.{framed_step}
use Rattle.pass_proofs.specs.run_source.declared.state.State.{State}

module _ (e : Elision) (passes : State → Bool) where
  abbrev step : State → State
  step = framed_step (framed e)

  -- the running states among the first k from a state on pass
  abbrev Pass : ℕ → State → Type 0
  Pass k s = (j : ℕ) → j < k → IsRunning (iterate step j s).outcome → passes (iterate step j s) ≡ true

  same_step : (s : State) → (IsRunning s.outcome → passes s ≡ true) → checked_step e passes s ≡ step s
  same_step s pass =
      ⊎_elim (λ runs. checked_is e passes s (pass runs))
      (λ over. checked_stays e passes s over ∙ sym (framed_stays (framed e) s over)) (running_or s.outcome)

  same_after : (k : ℕ) (s : State) → Pass k s → iterate (checked_step e passes) k s ≡ iterate step k s
  same_after zero s pass = refl
  same_after (suc k) s pass =
      ap (iterate (checked_step e passes) k) (same_step s (pass 0 (omega arith)))
      ∙ same_after k (step s) (λ j lt. pass (suc j) (omega (arith, lt)))

  same_cost : (cost : State → ℕ) (k : ℕ) (s : State) → Pass k s
      → cost_from (checked_step e passes) cost k s ≡ cost_from step cost k s
  same_cost cost zero s pass = refl
  same_cost cost (suc k) s pass =
      ap (λ (z : State). cost s + cost_from (checked_step e passes) cost k z) (same_step s (pass 0 (omega arith)))
      ∙ ap (λ (n : ℕ). cost s + n) (same_cost cost k (step s) (λ j lt. pass (suc j) (omega (arith, lt))))

  module _ (entry : ℕ) (args : List Word) (R V : State → State → Type 0) (a : Machine State) (price : State → ℕ)
      (cost : State → ℕ) (agrees : AgreesBy R V a price (framed_run e entry args) cost)
      (passing : PassesOn R a (framed_run e entry args) passes) where
    abbrev b : Machine State
    b = framed_run e entry args

    abbrev c : Machine State
    c = checked_run e passes entry args

    same_at : (i k : ℕ) → i ≤ k → Pass k b.start → state_at c i ≡ state_at b i
    same_at i k le pass = same_after i b.start (λ j lt. pass j (omega (arith, le, lt)))

    forward : (n : ℕ) → IsFine (at a n).outcome → Reaches R V a price c cost n
    forward n fine = by (agrees.forward n fine)
      where
        by : Reaches R V a price b cost n → Reaches R V a price c cost n
        by x = record {
          steps = x.steps;
          few = subst (λ (m : ℕ). m ≤ cost_at a price n) (sym (same_cost cost x.steps b.start pass)) x.few;
          follows = subst (λ (s : State). Follows (at a n) (b.seen s)) (sym (same x.steps (omega arith))) x.follows;
          related = subst (R (state_at a n)) (sym (same x.steps (omega arith))) x.related;
          unstuck = λ i le. subst (λ (s : State). IsFine s.outcome) (sym (same i le)) (x.unstuck i le);
          between = λ i le. met i le (x.between i le);
        }
          where
            pass : Pass x.steps b.start
            pass j lt runs = passing.until n x.steps fine x.related x.unstuck j lt runs

            same : (i : ℕ) → i ≤ x.steps → state_at c i ≡ state_at b i
            same i le = same_at i x.steps le pass

            met : (i : ℕ) → i ≤ x.steps → IsMet V a b n i → IsMet V a c n i
            met i le m = record {
              steps = m.steps;
              early = m.early;
              holds = subst (V (state_at a m.steps)) (sym (same i le)) m.holds;
            }

    back : NeverUndefined (at a) → (m : ℕ) → IsReached V a c m
    back never m =
        let x = agrees.back never m in
        let same = same_at m m (omega arith) (λ j lt runs. passing.always never j runs) in
        record {
          steps = x.steps;
          fine = subst (λ (s : State). IsFine s.outcome) (sym same) x.fine;
          follows = subst (λ (s : State). Follows (b.seen s) (at a x.steps)) (sym same) x.follows;
          holds = subst (V (state_at a x.steps)) (sym same) x.holds;
        }

    counts : HaveSameCounts (at a) (at c)
    counts n m first second =
        let same = checked_at e passes entry args m (returned_fine (state_at c m).outcome second) in
        agrees.counts n m first (subst (λ (s : State). IsReturned s.outcome) same second)
        ∙ ap (λ (s : State). (b.seen s).allocs) (sym same)

    pub passing_agrees : AgreesBy R V a price (checked_run e passes entry args) cost
    passing_agrees = record { forward = forward; back = back; counts = counts }
