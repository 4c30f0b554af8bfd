-- Runs of machines whose states stay when they are over.
use Rattle.std.proofs.Common.{◌≡◌, ℕ, zero, suc, ◌+◌, ◌-◌, ◌≤◌, ◌⊎◌, inl, inr, refl, sym, ap, ◌∙◌, subst, arith}
use Rattle.run_agreement.specs.Machines.{IsFine, IsRunning, IsReturned, iterate, Machine, at, Stays}
use Rattle.ir_model.specs.ir_base.declared.outcome.Outcome.{Outcome}

pub iterate-add : {S : Type 0} (f : S → S) (m n : ℕ) (s : S) → iterate f (m + n) s ≡ iterate f n (iterate f m s)
iterate-add f zero n s = let e : 0 + n ≡ n = omega arith in ap (λ i. iterate f i s) e
iterate-add f (suc m) n s = let e : suc m + n ≡ suc (m + n) = omega arith in ap (λ i. iterate f i s) e ∙ iterate-add f m n (f s)

pub running_or : (o : Outcome) → IsRunning o ⊎ (IsRunning o → ⊥)
running_or (Outcome.Returned v) = inr (λ h. h)
running_or Outcome.Running = inl tt
running_or (Outcome.Undefined c p) = inr (λ h. h)

pub returned_over : (o : Outcome) → IsReturned o → IsRunning o → ⊥
returned_over (Outcome.Returned v) h r = r
returned_over Outcome.Running h r = h
returned_over (Outcome.Undefined c p) h r = r

pub over_stays : {S : Type 0} (a : Machine S) → Stays a → (n : ℕ) (s : S) → (IsRunning (a.seen s).outcome → ⊥) → iterate a.step n s ≡ s
over_stays a h zero s over = refl
over_stays a h (suc n) s over = ap (iterate a.step n) (h s over) ∙ over_stays a h n s over

-- what is fine after n steps was fine before
fine_by : {S : Type 0} (a : Machine S) → Stays a → (n : ℕ) (s : S) → IsFine (a.seen (iterate a.step n s)).outcome → (o : Outcome) → (a.seen s).outcome ≡ o → IsFine o
fine_by a h n s fine (Outcome.Returned v) e = tt
fine_by a h n s fine Outcome.Running e = tt
fine_by a h n s fine (Outcome.Undefined c p) e =
    let same = over_stays a h n s (λ r. subst IsRunning e r) in
    subst IsFine e (subst (λ x. IsFine (a.seen x).outcome) same fine)

pub fine_earlier : {S : Type 0} (a : Machine S) → Stays a → (n : ℕ) (s : S) → IsFine (a.seen (iterate a.step n s)).outcome → IsFine (a.seen s).outcome
fine_earlier a h n s fine = fine_by a h n s fine (a.seen s).outcome refl

pub fine_until : {S : Type 0} (a : Machine S) → Stays a → (i n : ℕ) → i ≤ n → IsFine (at a n).outcome → IsFine (at a i).outcome
fine_until a h i n le fine =
    let e : n ≡ i + (n - i) = omega arith in
    fine_earlier a h (n - i) _ (subst (λ s. IsFine (a.seen s).outcome) (ap (λ j. iterate a.step j a.start) e ∙ iterate-add a.step i (n - i) a.start) fine)

-- a run that has returned shows the same from then on
pub returned_until : {S : Type 0} (a : Machine S) → Stays a → (i n : ℕ) → i ≤ n → IsReturned (at a i).outcome → at a n ≡ at a i
returned_until a h i n le r =
    let e : n ≡ i + (n - i) = omega arith in
    ap a.seen (ap (λ j. iterate a.step j a.start) e ∙ iterate-add a.step i (n - i) a.start ∙ over_stays a h (n - i) (iterate a.step i a.start) (returned_over (at a i).outcome r))

-- at two numbers of steps at which it has returned it shows the same
pub returned_same : {S : Type 0} (a : Machine S) → Stays a → (i n : ℕ) → IsReturned (at a i).outcome → IsReturned (at a n).outcome → (i ≤ n) ⊎ (n ≤ i) → at a n ≡ at a i
returned_same a h i n p q (inl le) = returned_until a h i n le p
returned_same a h i n p q (inr le) = sym (returned_until a h n i le q)
