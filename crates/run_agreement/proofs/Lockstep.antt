-- A relation between states that each step of the source keeps gives agreement, within a number of steps for one.
use Rattle.std.proofs.Common.{◌≡◌, ℕ, ◌+◌, ◌-◌, ◌*◌, ◌<◌, ◌≤◌, ◌⊎◌, inl, inr, ⊎_elim, refl, sym, ap, ◌∙◌, subst, arith}
use Rattle.run_agreement.specs.Machines.{IsFine, IsRunning, iterate, Machine, at, Stays}
use Rattle.run_agreement.specs.Agreements.{AgreesWithin}
use Rattle.run_agreement.specs.Costs.{AgreesBy, IsNear, cost_from}
use Rattle.run_agreement.proofs.Costs.{agrees_within_by_steps, cost_below, weaken_by}
use Rattle.run_agreement.proofs.PricedLockstep.{AdvanceBy, IsPassed, SimulatesBy, lockstep_by}
use Rattle.run_agreement.proofs.Runs.{iterate-add}
pub use Rattle.run_agreement.proofs.Shows.{ShowsSame, IsBetween}

module _ {S T : Type 0} (a : Machine S) (b : Machine T) (k : ℕ) (R : S → T → Type 0) (μ : S → ℕ) where
  -- the target's steps for one step of the source: at most k, and none only where the measure falls
  pub record Advance (s : S) (t : T) : Type 0 where
    pub steps : ℕ
    pub few : steps ≤ k
    pub goes_on : (0 < steps) ⊎ (μ (a.step s) < μ s)
    pub between : (i : ℕ) → 0 < i → i < steps → IsBetween (a.seen s) (a.seen (a.step s)) (b.seen (iterate b.step i t))
    pub related : R (a.step s) (iterate b.step steps t)

  pub record Simulates : Type 0 where
    pub begin : R a.start b.start
    pub same : (s : S) (t : T) → R s t → ShowsSame (b.seen t) (a.seen s)
    pub advance : (s : S) (t : T) → R s t → IsRunning (a.seen s).outcome → IsFine (a.seen (a.step s)).outcome → Advance s t
    pub stays_a : Stays a
    pub stays_b : Stays b

-- ---- each step of the source has k and each of the target costs 1, so the credit stays as it is

module _ {S T : Type 0} (a : Machine S) (b : Machine T) (k : ℕ) (R : S → T → Type 0) (μ : S → ℕ) where
  abbrev Price : S → ℕ
  Price s = k

  abbrev Cost : T → ℕ
  Cost t = 1

  abbrev Credited : ℕ → S → T → Type 0
  Credited c s t = R s t

  is_near : (s : S) (t : T) → R s t → IsNear b k R s t
  is_near s t r = (0, omega arith, inr r)

  near_behind : (i n : ℕ) (s : S) (t : T) → i < n → n ≤ k → R s t → IsNear b k R s (iterate b.step i t)
  near_behind i n s t lt le r = (i, omega arith, inl (t, r, refl))

  near_before : (i n : ℕ) (s : S) (t : T) → 0 < i → i < n → n ≤ k → R s (iterate b.step n t) → IsNear b k R s (iterate b.step i t)
  near_before i n s t pos lt le r =
      let e : n ≡ i + (n - i) = omega arith in
      (n - i, omega arith, inr (subst (R s) (ap (λ j. iterate b.step j t) e ∙ iterate-add b.step i (n - i) t) r))

  passed : (s : S) (t : T) → R s t → (adv : Advance a b k R μ s t) → (i : ℕ) → 0 < i → i < adv.steps → IsPassed a b (IsNear b k R) s (iterate b.step i t) ⊎ IsPassed a b (IsNear b k R) (a.step s) (iterate b.step i t)
  passed s t r adv i pos lt =
      let x = adv.between i pos lt in
      ⊎_elim
      (λ e. inl (record { runs = x.0; events = e; holds = near_behind i adv.steps s t lt adv.few r }))
      (λ e. inr (record { runs = x.0; events = e; holds = near_before i adv.steps (a.step s) t pos lt adv.few adv.related }))
      x.1

  spent : (n c x : ℕ) → n ≤ k → x ≤ 1 * n → x + c ≤ k + c
  spent n c x le h = omega arith

  advance_by : (c : ℕ) (s : S) (t : T) → R s t → Advance a b k R μ s t → AdvanceBy a Price b Cost Credited (IsNear b k R) μ c s t
  advance_by c s t r adv = record {
    steps = adv.steps;
    credit = c;
    few = spent adv.steps c (cost_from b.step Cost adv.steps t) adv.few (cost_below b.step Cost 1 (λ u. omega arith) adv.steps t);
    goes_on = adv.goes_on;
    between = passed s t r adv;
    related = adv.related;
  }

  abbrev HaveSameAllocs : Type 0
  HaveSameAllocs = (s : S) (t : T) → R s t → (a.seen s).allocs ≡ (b.seen t).allocs

  simulates_by : Simulates a b k R μ → HaveSameAllocs → SimulatesBy a Price b Cost Credited (IsNear b k R) μ
  simulates_by sim counts = record {
    begin = sim.begin;
    same = λ c. sim.same;
    counts = λ c. counts;
    holds = λ c. is_near;
    advance = λ c s t r runs fine. advance_by c s t r (sim.advance s t r runs fine);
    stays_a = sim.stays_a;
    stays_b = sim.stays_b;
  }

  -- the runs agree by costs, and what is related stays near
  pub lockstep_near : Simulates a b k R μ → ((s : S) (t : T) → R s t → (a.seen s).allocs ≡ (b.seen t).allocs) → AgreesBy R (IsNear b k R) a (λ s. k) b (λ t. 1)
  lockstep_near sim counts = weaken_by (λ s t. (c : ℕ) × R s t) (IsNear b k R) R (IsNear b k R) a Price Price b Cost Cost (λ s t r. r.1) (λ s t v. v) (λ n fine. omega arith) (λ m. omega arith) (lockstep_by a Price b Cost Credited (IsNear b k R) μ (simulates_by sim counts))

  -- where related states show the same counts, the runs have them where both have returned
  pub lockstep_within : Simulates a b k R μ → ((s : S) (t : T) → R s t → (a.seen s).allocs ≡ (b.seen t).allocs) → AgreesWithin k (at a) (at b)
  lockstep_within sim counts = agrees_within_by_steps R (IsNear b k R) a Price b Cost k (λ s. omega arith) (λ t. omega arith) (lockstep_near sim counts)

-- ---- in single steps all states of the target are related

near_one : {S T : Type 0} (b : Machine T) (R : S → T → Type 0) (s : S) (t : T) → IsNear b 1 R s t → R s t
near_one b R s t h =
    let none : h.0 ≡ 0 = omega (arith, h.1) in
    ⊎_elim
    (λ p. subst (R s) (ap (λ i. iterate b.step i p.0) (sym none) ∙ p.2) p.1)
    (λ r. subst (λ i. R s (iterate b.step i t)) none r)
    h.2

pub lockstep_one : {S T : Type 0} (a : Machine S) (b : Machine T) (R : S → T → Type 0) (μ : S → ℕ) → Simulates a b 1 R μ → ((s : S) (t : T) → R s t → (a.seen s).allocs ≡ (b.seen t).allocs) → AgreesBy R R a (λ s. 1) b (λ t. 1)
lockstep_one a b R μ sim counts = weaken_by R (IsNear b 1 R) R R a (λ s. 1) (λ s. 1) b (λ t. 1) (λ t. 1) (λ s t r. r) (near_one b R) (λ n fine. omega arith) (λ m. omega arith) (lockstep_near a b 1 R μ sim counts)
