-- Agreement by costs where all prices are a number of times as high.
use Rattle.std.proofs.Common.{◌≡◌, ℕ, zero, suc, ◌+◌, ◌*◌, ◌≤◌, ap, ◌∙◌, sym, subst, arith}
use Rattle.std.proofs.Math.Nat.{mul-le-mul_left}
use Rattle.ir_laws.specs.run_agreement.Costs.{AgreesBy, cost_at, cost_from}
use Rattle.ir_laws.specs.run_agreement.Machines.{Machine}

pub cost_times : {S : Type 0} (f : S → S) (price : S → ℕ) (w n : ℕ) (s : S)
    → cost_from f (λ x. w * price x) n s ≡ w * cost_from f price n s
cost_times f price w zero s = none w
  where
    none : (w : ℕ) → 0 ≡ w * 0
    none w = omega arith
cost_times f price w (suc n) s = ap (λ i. w * price s + i) (cost_times f price w n (f s)) ∙ both (price s)
    (cost_from f price n (f s))
  where
    both : (x y : ℕ) → w * x + w * y ≡ w * (x + y)
    both x y = grind arith

pub scale_by : {S T : Type 0} (R V : S → T → Type 0) (a : Machine S) (price : S → ℕ) (b : Machine T) (cost : T → ℕ)
    (w : ℕ) → AgreesBy R V a price b cost → AgreesBy R V a (λ s. w * price s) b (λ t. w * cost t)
scale_by R V a price b cost w p = record {
  forward = λ n fine.
      let x = p.forward n fine in
      record {
        steps = x.steps;
        few = less n x.steps x.few;
        follows = x.follows;
        related = x.related;
        unstuck = x.unstuck;
        between = x.between;
      };
  back = p.back;
  counts = p.counts;
}
  where
    less : (n m : ℕ) → cost_at b cost m ≤ cost_at a price n
        → cost_at b (λ t. w * cost t) m ≤ cost_at a (λ s. w * price s) n
    less n m h =
        subst (λ i. i ≤ cost_at a (λ s. w * price s) n) (sym (cost_times b.step cost w m b.start))
        (subst (λ i. w * cost_at b cost m ≤ i) (sym (cost_times a.step price w n a.start)) (mul-le-mul_left w h))
