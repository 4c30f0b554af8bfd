-- A relation between states that each step of the source keeps gives agreement by what steps cost. The relation goes by a credit: what a step
-- leaves of its price may be spent by a later one.
use Rattle.std.proofs.Common.{◌≡◌, ℕ, zero, suc, ◌+◌, ◌-◌, ◌<◌, ◌≤◌, ◌⊎◌, inl, inr, ⊎_elim, refl, sym, ap, ◌∙◌, subst, arith}
use Rattle.std.proofs.lemmas.Bool.{cases_lt}
use Rattle.run_agreement.specs.Machines.{Seen, IsFine, IsRunning, IsReturned, iterate, Machine, at, Stays}
use Rattle.run_agreement.specs.Agreements.{Follows, HaveSameCounts}
use Rattle.run_agreement.specs.Costs.{AgreesBy, Reaches, cost_from}
use Rattle.run_agreement.proofs.Compose.{returned_fine}
use Rattle.run_agreement.proofs.Costs.{cost-add}
use Rattle.run_agreement.proofs.Runs.{iterate-add, running_or, over_stays, fine_earlier, fine_until, returned_same}
use Rattle.run_agreement.proofs.Shows.{ShowsSame, fine_running, shows_running, shows_same, turned}
use Rattle.ir_model.specs.ir_base.declared.outcome.Outcome.{Outcome}

zero_or : (n : ℕ) → (0 < n) ⊎ (n ≡ 0)
zero_or zero = inr refl
zero_or (suc n) = inl (omega arith)

order : (m n : ℕ) → (m ≤ n) ⊎ (n ≤ m)
order m n = ⊎_elim (λ lt. inl (omega arith)) (λ le. inr le) (cases_lt m n)

-- a state of the target in between: it goes on, with the events of the source's state, and V holds
pub record IsPassed {S T : Type 0} (a : Machine S) (b : Machine T) (V : S → T → Type 0) (s : S) (t : T) : Type 0 where
  pub runs : (b.seen t).outcome ≡ Outcome.Running
  pub events : (b.seen t).events ≡ (a.seen s).events
  pub holds : V s t

module _ {S T : Type 0} (a : Machine S) (price : S → ℕ) (b : Machine T) (cost : T → ℕ) (R : ℕ → S → T → Type 0) (V : S → T → Type 0) (μ : S → ℕ) where
  -- the target's steps for one step of the source: they cost its price at most, but for what the credit falls or rises by; there are none only where the measure falls; in between the states are passed before the step or behind it
  pub record AdvanceBy (c : ℕ) (s : S) (t : T) : Type 0 where
    pub steps : ℕ
    pub credit : ℕ
    pub few : cost_from b.step cost steps t + credit ≤ price s + c
    pub goes_on : (0 < steps) ⊎ (μ (a.step s) < μ s)
    pub between : (i : ℕ) → 0 < i → i < steps → IsPassed a b V s (iterate b.step i t) ⊎ IsPassed a b V (a.step s) (iterate b.step i t)
    pub related : R credit (a.step s) (iterate b.step steps t)

  pub record SimulatesBy : Type 0 where
    pub begin : R 0 a.start b.start
    pub same : (c : ℕ) (s : S) (t : T) → R c s t → ShowsSame (b.seen t) (a.seen s)
    pub counts : (c : ℕ) (s : S) (t : T) → R c s t → (a.seen s).allocs ≡ (b.seen t).allocs
    pub holds : (c : ℕ) (s : S) (t : T) → R c s t → V s t
    pub advance : (c : ℕ) (s : S) (t : T) → R c s t → IsRunning (a.seen s).outcome → IsFine (a.seen (a.step s)).outcome → AdvanceBy c s t
    pub stays_a : Stays a
    pub stays_b : Stays b

module _ {S T : Type 0} (a : Machine S) (price : S → ℕ) (b : Machine T) (cost : T → ℕ) (R : ℕ → S → T → Type 0) (V : S → T → Type 0) (μ : S → ℕ) (sim : SimulatesBy a price b cost R V μ) where
  -- ---- forward

  -- V holds of the target's state after i steps and one that the source comes to in n
  record Meets (n : ℕ) (s : S) (t : T) (i : ℕ) : Type 0 where
    steps : ℕ
    early : steps ≤ n
    holds : V (iterate a.step steps s) (iterate b.step i t)

  meets_now : (n : ℕ) (s : S) (t : T) (i : ℕ) → i ≡ 0 → V s t → Meets n s t i
  meets_now n s t i z v = record { steps = 0; early = omega arith; holds = subst (λ j. V s (iterate b.step j t)) (sym z) v }

  -- up to the next state that is related
  meets_first : (n c : ℕ) (s : S) (t : T) (i : ℕ) → R c s t → (adv : AdvanceBy a price b cost R V μ c s t) → i < adv.steps → Meets (suc n) s t i
  meets_first n c s t i r adv lt = ⊎_elim
      (λ pos. ⊎_elim
      (λ p. record { steps = 0; early = omega arith; holds = p.holds })
      (λ p. record { steps = 1; early = omega arith; holds = p.holds })
      (adv.between i pos lt))
      (λ z. meets_now (suc n) s t i z (sim.holds c s t r))
      (zero_or i)

  -- from there on
  meets_rest : (n q : ℕ) (s : S) (t : T) (i : ℕ) → q ≤ i → Meets n (a.step s) (iterate b.step q t) (i - q) → Meets (suc n) s t i
  meets_rest n q s t i le h =
      let e : q + (i - q) ≡ i = omega arith in
      let there = sym (iterate-add b.step q (i - q) t) ∙ ap (λ j. iterate b.step j t) e in
      let less : suc h.steps ≤ suc n = omega (arith, h.early) in
      record { steps = suc h.steps; early = less; holds = subst (V (iterate a.step h.steps (a.step s))) there h.holds }

  -- where n steps of the source lead
  record Comes (n c : ℕ) (s : S) (t : T) : Type 0 where
    steps : ℕ
    credit : ℕ
    few : cost_from b.step cost steps t + credit ≤ cost_from a.step price n s + c
    related : R credit (iterate a.step n s) (iterate b.step steps t)
    between : (i : ℕ) → i ≤ steps → Meets n s t i

  spent_on : (m n : ℕ) (t : T) (c d e x y : ℕ) → cost_from b.step cost m t + d ≤ x + c → cost_from b.step cost n (iterate b.step m t) + e ≤ y + d → cost_from b.step cost (m + n) t + e ≤ (x + y) + c
  spent_on m n t c d e x y p q = subst (λ i. i + e ≤ (x + y) + c) (sym (cost-add b.step cost m n t)) (sums (cost_from b.step cost m t) (cost_from b.step cost n (iterate b.step m t)) p q)
    where
      sums : (u v : ℕ) → u + d ≤ x + c → v + e ≤ y + d → (u + v) + e ≤ (x + y) + c
      sums u v f g = omega arith

  comes_on : (n c : ℕ) (s : S) (t : T) → R c s t → (adv : AdvanceBy a price b cost R V μ c s t) → Comes n adv.credit (a.step s) (iterate b.step adv.steps t) → Comes (suc n) c s t
  comes_on n c s t r adv rest = record {
    steps = adv.steps + rest.steps;
    credit = rest.credit;
    few = spent_on adv.steps rest.steps t c adv.credit rest.credit (price s) (cost_from a.step price n (a.step s)) adv.few rest.few;
    related = subst (R rest.credit (iterate a.step n (a.step s))) (sym (iterate-add b.step adv.steps rest.steps t)) rest.related;
    between = λ i le. ⊎_elim
        (λ lt. meets_first n c s t i r adv lt)
        (λ ge. let left : i - adv.steps ≤ rest.steps = omega arith in meets_rest n adv.steps s t i ge (rest.between (i - adv.steps) left))
        (cases_lt i adv.steps);
  }

  -- no step of the target
  comes_to : (n c : ℕ) (s : S) (t : T) → R c s t → s ≡ iterate a.step n s → Comes n c s t
  comes_to n c s t r e = record {
    steps = 0;
    credit = c;
    few = omega arith;
    related = subst (λ x. R c x t) e r;
    between = λ i le. meets_now n s t i (omega arith) (sim.holds c s t r);
  }

  each : (n c : ℕ) (s : S) (t : T) → R c s t → IsFine (a.seen (iterate a.step n s)).outcome → Comes n c s t
  each zero c s t r fine = comes_to 0 c s t r refl
  each (suc n) c s t r fine = ⊎_elim
      (λ runs.
      let adv = sim.advance c s t r runs (fine_earlier a sim.stays_a n (a.step s) fine) in
      comes_on n c s t r adv (each n adv.credit (a.step s) (iterate b.step adv.steps t) adv.related fine))
      (λ over. comes_to (suc n) c s t r (sym (over_stays a sim.stays_a (suc n) s over)))
      (running_or (a.seen s).outcome)

  reaches : (n : ℕ) → IsFine (at a n).outcome → Reaches (λ s t. (c : ℕ) × R c s t) V a price b cost n
  reaches n fine =
      let x = each n 0 a.start b.start sim.begin fine in
      let same = sim.same x.credit _ _ x.related in
      let there = subst IsFine (sym same.outcome) fine in
      record {
        steps = x.steps;
        few = omega (arith, x.few);
        follows = shows_same _ _ (turned _ _ same);
        related = (x.credit, x.related);
        unstuck = λ i le. fine_until b sim.stays_b i x.steps le there;
        between = λ i le. let y = x.between i le in record { steps = y.steps; early = y.early; holds = y.holds };
      }

  -- ---- back

  -- the source's steps without the target, up to one with a step of the target or to the end
  record Progress (s : S) (t : T) : Type 0 where
    wait : ℕ
    credit : ℕ
    related : R credit (iterate a.step wait s) t
    next : ((adv : AdvanceBy a price b cost R V μ credit (iterate a.step wait s) t) × (0 < adv.steps)) ⊎ (IsRunning (a.seen (iterate a.step wait s)).outcome → ⊥)

  progress : (x c : ℕ) (s : S) (t : T) → μ s ≤ x → R c s t → ((n : ℕ) → IsFine (a.seen (iterate a.step n s)).outcome) → Progress s t
  progress zero c s t le r fine = ⊎_elim
      (λ runs.
      let adv = sim.advance c s t r runs (fine 1) in
      let pos : 0 < adv.steps = ⊎_elim (λ p. p) (λ q. absurd (omega arith)) adv.goes_on in
      record { wait = 0; credit = c; related = r; next = inl (adv, pos) })
      (λ over. record { wait = 0; credit = c; related = r; next = inr over })
      (running_or (a.seen s).outcome)
  progress (suc x) c s t le r fine = ⊎_elim
      (λ runs.
      let adv = sim.advance c s t r runs (fine 1) in
      ⊎_elim
      (λ (pos : 0 < adv.steps). record { wait = 0; credit = c; related = r; next = inl (adv, pos) })
      (λ (none : adv.steps ≡ 0).
      let less : μ (a.step s) < μ s = ⊎_elim (λ p. absurd (omega arith)) (λ q. q) adv.goes_on in
      let rest = progress x adv.credit (a.step s) t (omega arith) (subst (λ i. R adv.credit (a.step s) (iterate b.step i t)) none adv.related) (λ n. fine (suc n)) in
      record { wait = suc rest.wait; credit = rest.credit; related = rest.related; next = rest.next })
      (zero_or adv.steps))
      (λ over. record { wait = 0; credit = c; related = r; next = inr over })
      (running_or (a.seen s).outcome)

  -- a state of the target is fine, and some state that the source comes to follows it, of which V holds
  record IsShown (s : S) (t : T) : Type 0 where
    steps : ℕ
    fine : IsFine (b.seen t).outcome
    follows : Follows (b.seen t) (a.seen (iterate a.step steps s))
    holds : V (iterate a.step steps s) t

  shown_now : (c : ℕ) (s : S) (t : T) → R c s t → IsFine (a.seen s).outcome → IsShown s t
  shown_now c s t r fine =
      let same : ShowsSame (b.seen t) (a.seen s) = sim.same c s t r in
      record { steps = 0; fine = subst IsFine (sym same.outcome) fine; follows = shows_same _ _ same; holds = sim.holds c s t r }

  -- after w steps of the source
  shown_later : (w : ℕ) (s : S) (t : T) → IsShown (iterate a.step w s) t → IsShown s t
  shown_later w s t h =
      let e = sym (iterate-add a.step w h.steps s) in
      record {
        steps = w + h.steps;
        fine = h.fine;
        follows = subst (λ y. Follows (b.seen t) (a.seen y)) e h.follows;
        holds = subst (λ y. V y t) e h.holds;
      }

  shown_passed : (s : S) (t : T) → IsPassed a b V s t → IsShown s t
  shown_passed s t p = record { steps = 0; fine = fine_running (b.seen t) p.runs; follows = shows_running (b.seen t) (a.seen s) p.runs p.events; holds = p.holds }

  shown_over : (m c : ℕ) (s : S) (t : T) → R c s t → IsFine (a.seen s).outcome → (IsRunning (a.seen s).outcome → ⊥) → IsShown s (iterate b.step m t)
  shown_over m c s t r fine over =
      let same : ShowsSame (b.seen t) (a.seen s) = sim.same c s t r in
      let stay = over_stays b sim.stays_b m t (λ runs. over (subst IsRunning same.outcome runs)) in
      subst (IsShown s) (sym stay) (shown_now c s t r fine)

  shown_after : (m q : ℕ) (s : S) (t : T) → q ≤ m → IsShown s (iterate b.step (m - q) (iterate b.step q t)) → IsShown s (iterate b.step m t)
  shown_after m q s t le h =
      let e : q + (m - q) ≡ m = omega arith in
      subst (IsShown s) (sym (iterate-add b.step q (m - q) t) ∙ ap (λ i. iterate b.step i t) e) h

  abbrev IsEverFine : S → Type 0
  IsEverFine s = (n : ℕ) → IsFine (a.seen (iterate a.step n s)).outcome

  abbrev Back : ℕ → Type 0
  Back x = (m c : ℕ) (s : S) (t : T) → m ≤ x → R c s t → IsEverFine s → IsShown s (iterate b.step m t)

  back_now : (m c : ℕ) (s : S) (t : T) → m ≡ 0 → R c s t → IsFine (a.seen s).outcome → IsShown s (iterate b.step m t)
  back_now m c s t z r fine = subst (λ i. IsShown s (iterate b.step i t)) (sym z) (shown_now c s t r fine)

  -- by a step of the source that the target has steps for
  back_by : (x m c : ℕ) (s : S) (t : T) → Back x → m ≤ suc x → 0 < m → IsEverFine s → (adv : AdvanceBy a price b cost R V μ c s t) → 0 < adv.steps → IsShown s (iterate b.step m t)
  back_by x m c s t go le pos fine adv some = ⊎_elim
      (λ lt. ⊎_elim (λ p. shown_passed s _ p) (λ p. shown_later 1 s _ (shown_passed (a.step s) _ p)) (adv.between m pos lt))
      (λ ge.
      let less : m - adv.steps ≤ x = omega arith in
      shown_after m adv.steps s t ge (shown_later 1 s _ (go (m - adv.steps) adv.credit (a.step s) (iterate b.step adv.steps t) less adv.related (λ n. fine (suc n)))))
      (cases_lt m adv.steps)

  back_on : (x m : ℕ) (s : S) (t : T) → Back x → m ≤ suc x → 0 < m → IsEverFine s → Progress s t → IsShown s (iterate b.step m t)
  back_on x m s t go le pos fine p =
      let later = λ (n : ℕ). subst (λ y. IsFine (a.seen y).outcome) (iterate-add a.step p.wait n s) (fine (p.wait + n)) in
      shown_later p.wait s (iterate b.step m t) (⊎_elim
      (λ adv. back_by x m p.credit (iterate a.step p.wait s) t go le pos later adv.0 adv.1)
      (λ over. shown_over m p.credit (iterate a.step p.wait s) t p.related (later 0) over)
      p.next)

  back : (x : ℕ) → Back x
  back zero m c s t le r fine = back_now m c s t (omega arith) r (fine 0)
  back (suc x) m c s t le r fine = ⊎_elim (λ pos. back_on x m s t (back x) le pos fine (progress (μ s) c s t (omega arith) r fine)) (λ z. back_now m c s t z r (fine 0)) (zero_or m)

  -- ---- the whole

  counts_at : HaveSameCounts (at a) (at b)
  counts_at n m p q =
      let x = each n 0 a.start b.start sim.begin (returned_fine (at a n).outcome p) in
      let there : IsReturned (at b x.steps).outcome = subst IsReturned (sym (sim.same x.credit _ _ x.related).outcome) p in
      sim.counts x.credit _ _ x.related ∙ ap (λ (u : Seen). u.allocs) (returned_same b sim.stays_b m x.steps q there (order m x.steps))

  -- the runs agree by costs, with some credit at corresponding steps
  pub lockstep_by : AgreesBy (λ s t. (c : ℕ) × R c s t) V a price b cost
  lockstep_by = record {
    forward = reaches;
    back = λ fine m. let x = back m m 0 a.start b.start (omega arith) sim.begin fine in record { steps = x.steps; fine = x.fine; follows = x.follows; holds = x.holds };
    counts = counts_at;
  }
