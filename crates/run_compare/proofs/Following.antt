-- The least step with so many events, and a return where it is asked, is the least one that follows.
use Rattle.std.proofs.Common.{◌≡◌, ◌⊎◌, ⊎_elim, inl, inr, ◌++◌, ◌+◌, ◌-◌, ◌∙◌, ◌<◌, ◌≤◌, ℕ, zero, suc, Bool, true, false, List, [], ◌∷◌, Option, Some, None, length, map, refl, sym, ap, subst, append-nil, append_assoc, arith}
use Rattle.std.proofs.lemmas.List.{length-append, length-map, map-append}
use Rattle.ir_base.specs.declared.outcome.Outcome.{Outcome}
use Rattle.ir_base.specs.declared.outcome.Word.{Word}
use Rattle.run_agreement.specs.Agreements.{Follows}
use Rattle.run_agreement.specs.Machines.{IsReturned, IsRunning, Seen, SeenEvent, iterate}
use Rattle.run_compare.proofs.Growing.{IsMore, no_more, step_grows}
use Rattle.run_compare.specs.Report.{HasCome, IsLeast, is_returned, plain_after, plain_seen}
use Rattle.run_plain.proofs.Iterating.{iterate-next, over}
use Rattle.run_plain.specs.Machines.{PlainRun, is_over}
use Rattle.run_plain.specs.Plain.{plain_step}
use Rattle.run_plain.specs.declared.state.PlainState.{PlainState}
use Rattle.run_step.specs.Runs.{seen_event}

-- ---- lists that go on

more_more : {A : Type 0} (xs ys zs : List A) → IsMore xs ys → IsMore ys zs → IsMore xs zs
more_more xs ys zs a b =
    (a.0 ++ b.0, b.1 ∙ ap (λ l. l ++ b.0) a.1 ∙ append_assoc xs a.0 b.0)

more_mapped : {A B : Type 0} (f : A → B) (xs ys : List A) → IsMore xs ys → IsMore (map f xs) (map f ys)
more_mapped f xs ys m = (map f m.0, ap (map f) m.1 ∙ map-append f xs m.0)

-- a list that goes on, and is as long, is the same
same_long : {A : Type 0} (xs ys : List A) → IsMore xs ys → length xs ≡ length ys → ys ≡ xs
same_long xs ys m same = on m.0 m.1
  where
    on : (more : List _) → ys ≡ xs ++ more → ys ≡ xs
    on [] e = e ∙ append-nil xs
    on (z ∷ zs) e =
        let long : length ys ≡ length xs + length (z ∷ zs) = ap length e ∙ length-append xs (z ∷ zs) in
        let some : length (z ∷ zs) ≡ suc (length zs) = refl in
        absurd (omega (arith, same, long, some))

-- ---- a plain run

module _ (r : PlainRun) where
  next_grows : (n : ℕ) → IsMore (plain_after r n).world.events (plain_after r (n + 1)).world.events
  next_grows n =
      subst (λ (s : PlainState). IsMore (plain_after r n).world.events s.world.events)
      (iterate-next (plain_step r.given) n r.state) (step_grows r.given (plain_after r n))

  goes_on : (n k : ℕ) → IsMore (plain_after r n).world.events (plain_after r (n + k)).world.events
  goes_on n zero =
      let e : n + zero ≡ n = omega arith in
      subst (λ (i : ℕ). IsMore (plain_after r n).world.events (plain_after r i).world.events) (sym e) (no_more _)
  goes_on n (suc k) =
      let e : n + k + 1 ≡ n + suc k = omega arith in
      subst (λ (i : ℕ). IsMore (plain_after r n).world.events (plain_after r i).world.events) e
      (more_more _ (plain_after r (n + k)).world.events _ (goes_on n k) (next_grows (n + k)))

  seen_goes_on : (n k : ℕ) → n ≤ k → IsMore (plain_seen r n).events (plain_seen r k).events
  seen_goes_on n k le =
      let e : n + (k - n) ≡ k = omega (arith, le) in
      subst (λ (i : ℕ). IsMore (plain_seen r n).events (plain_seen r i).events) e
      (more_mapped (seen_event r.given.code) _ _ (goes_on n (k - n)))

  -- a run that has returned stays
  stays_over : (n k : ℕ) → n ≤ k → is_over (plain_after r n).outcome ≡ true → plain_after r n ≡ plain_after r k
  stays_over n k le is = over r.given n k r.state (plain_after r n) le refl is

-- ---- outcomes

returned_over : (o : Outcome) → IsReturned o → is_over o ≡ true
returned_over (Outcome.Returned v) is = refl
returned_over Outcome.Running is = absurd is
returned_over (Outcome.Undefined cause place) is = absurd is

is_returned_by : (o p : Outcome) → ((v : Option Word) → o ≡ Outcome.Returned v → p ≡ Outcome.Returned v)
    → is_returned o ≡ true → IsReturned p
is_returned_by (Outcome.Returned v) p same is = subst IsReturned (sym (same v refl)) tt
is_returned_by Outcome.Running p same is = absurd (cc)
is_returned_by (Outcome.Undefined cause place) p same is = absurd (cc)

-- ---- the least step

module _ (a : Seen) (r : PlainRun) where
  abbrev pub Come : ℕ → Type 0
  Come i = HasCome (length a.events) (is_returned a.outcome) (plain_seen r i)

  pub come_by : (i : ℕ) → Follows a (plain_seen r i) → Come i
  come_by i f = record {
    count = ap length f.events;
    over = λ is. is_returned_by a.outcome (plain_seen r i).outcome f.returns is;
  }

  module _ (m : ℕ) (least : IsLeast (λ i. HasCome (length a.events) (is_returned a.outcome) (plain_seen r i)) m)
      (last : ℕ) (f : Follows a (plain_seen r last)) where
    early : m ≤ last
    early = on (trichotomy m last)
      where
        trichotomy : (x y : ℕ) → (x ≤ y) ⊎ (y < x)
        trichotomy zero y = inl (omega arith)
        trichotomy (suc x) zero = inr (omega arith)
        trichotomy (suc x) (suc y) = ⊎_elim (λ le. inl (omega (arith, le))) (λ lt. inr (omega (arith, lt))) (trichotomy x y)

        on : (m ≤ last) ⊎ (last < m) → m ≤ last
        on (inl le) = le
        on (inr lt) = absurd (least.before last lt (come_by last f))

    same_events : (plain_seen r m).events ≡ a.events
    same_events =
        let long : length (plain_seen r m).events ≡ length (plain_seen r last).events =
        least.holds.count ∙ sym (ap length f.events) in
        sym (same_long _ _ (seen_goes_on r m last early) long) ∙ f.events

    returns_at : (v : Option Word) → a.outcome ≡ Outcome.Returned v
        → (plain_seen r m).outcome ≡ Outcome.Returned v
    returns_at v e =
        let over : IsReturned (plain_seen r m).outcome = least.holds.over (ap is_returned e) in
        ap (λ (s : PlainState). s.outcome)
        (stays_over r m last early (returned_over (plain_after r m).outcome over))
        ∙ f.returns v e

    pub least_follows : IsLeast (λ i. Follows a (plain_seen r i)) m
    least_follows = record {
      holds = record { events = same_events; returns = returns_at };
      before = λ i lt g. least.before i lt (come_by i g);
    }
