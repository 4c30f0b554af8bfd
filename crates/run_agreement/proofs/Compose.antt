-- Agreement composes.
use Rattle.std.proofs.Common.{◌≡◌, ℕ, ◌+◌, ◌*◌, ◌≤◌, ◌∙◌, refl, sym, subst, arith, Option}
use Rattle.std.proofs.Math.Nat.{mul-le-mul_left, mul-le-mul_right}
use Rattle.run_agreement.specs.Machines.{Seen, IsFine, IsReturned}
use Rattle.run_agreement.specs.Agreements.{Follows, Agrees, HaveSameCounts, AgreesWithin}
use Rattle.ir_model.specs.ir_base.declared.outcome.Outcome.{Outcome}
use Rattle.ir_model.specs.ir_base.declared.outcome.Word.{Word}

pub follows_on : (u v w : Seen) → Follows u v → Follows v w → Follows u w
follows_on u v w p q = record { events = q.events ∙ p.events; returns = λ r h. q.returns r (p.returns r h) }

factor : (j i k l n m p : ℕ) → m ≤ j * n + i → p ≤ k * m + l → p ≤ (j * k) * n + (k * i + l)
factor j i k l n m p h g =
    let e : k * m ≤ k * (j * n + i) = mul-le-mul_left k h in
    let s : k * (j * n + i) ≡ (j * k) * n + k * i = grind arith in
    omega arith

larger : (j i k l n m : ℕ) → j ≤ k → i ≤ l → m ≤ j * n + i → m ≤ k * n + l
larger j i k l n m p q h = let e : j * n ≤ k * n = mul-le-mul_right n p in omega arith

pub compose : (j i k l : ℕ) (a b c : ℕ → Seen) → Agrees j i a b → Agrees k l b c → Agrees (j * k) (k * i + l) a c
compose j i k l a b c p q = record {
  carried_down = λ fine n.
      let x = p.carried_down fine n in
      let y = q.carried_down (p.never_stuck fine) x.steps in
      record { steps = y.steps; few = factor j i k l n x.steps y.steps x.few y.few; follows = follows_on _ _ _ x.follows y.follows };
  never_stuck = λ fine. q.never_stuck (p.never_stuck fine);
  nothing_invented = λ fine m.
      let y = q.nothing_invented (p.never_stuck fine) m in
      let x = p.nothing_invented fine y.steps in
      record { steps = x.steps; follows = follows_on _ _ _ y.follows x.follows };
  prefix = λ n fine.
      let x = p.prefix n fine in
      let y = q.prefix x.steps (x.unstuck x.steps (omega arith)) in
      record { steps = y.steps; few = factor j i k l n x.steps y.steps x.few y.few; follows = follows_on _ _ _ x.follows y.follows; unstuck = y.unstuck };
}

pub weaken : (j i k l : ℕ) (a b : ℕ → Seen) → j ≤ k → i ≤ l → Agrees j i a b → Agrees k l a b
weaken j i k l a b p q h = record {
  carried_down = λ fine n. let x = h.carried_down fine n in record { steps = x.steps; few = larger j i k l n x.steps p q x.few; follows = x.follows };
  never_stuck = h.never_stuck;
  nothing_invented = h.nothing_invented;
  prefix = λ n fine. let x = h.prefix n fine in record { steps = x.steps; few = larger j i k l n x.steps p q x.few; follows = x.follows; unstuck = x.unstuck };
}

-- what has returned has returned something
pub record HasReturned (o : Outcome) : Type 0 where
  pub value : Option Word
  pub is : o ≡ Outcome.Returned value

pub has_returned : (o : Outcome) → IsReturned o → HasReturned o
has_returned (Outcome.Returned v) h = record { value = v; is = refl }
has_returned Outcome.Running h = absurd h
has_returned (Outcome.Undefined cause place) h = absurd h

pub returned_fine : (o : Outcome) → IsReturned o → IsFine o
returned_fine (Outcome.Returned v) h = tt
returned_fine Outcome.Running h = absurd h
returned_fine (Outcome.Undefined cause place) h = absurd h

pub follows_returned : (u w : Seen) → Follows u w → IsReturned u.outcome → IsReturned w.outcome
follows_returned u w f h =
    let r : HasReturned u.outcome = has_returned u.outcome h in
    subst IsReturned (sym (f.returns r.value r.is)) tt

-- the run between the two has returned too
pub counts_by : (a b c : ℕ → Seen) → ((n : ℕ) → IsFine (a n).outcome → (m : ℕ) × Follows (a n) (b m)) → HaveSameCounts a b → HaveSameCounts b c → HaveSameCounts a c
counts_by a b c p f g n m ra rc =
    let x = p n (returned_fine (a n).outcome ra) in
    let rb : IsReturned (b x.0).outcome = follows_returned (a n) (b x.0) x.1 ra in
    f n x.0 ra rb ∙ g x.0 m rb rc

pub compose_within : (j k : ℕ) (a b c : ℕ → Seen) → AgreesWithin j a b → AgreesWithin k b c → AgreesWithin (j * k) a c
compose_within j k a b c p q =
    let none : k * 0 + 0 ≤ 0 = omega arith in
    record {
      runs = weaken (j * k) (k * 0 + 0) (j * k) 0 a c (omega arith) none (compose j 0 k 0 a b c p.runs q.runs);
      counts = counts_by a b c (λ n fine. let x = p.runs.prefix n fine in (x.steps, x.follows)) p.counts q.counts;
    }
