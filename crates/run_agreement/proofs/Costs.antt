-- What steps cost, and the laws of agreement by costs: it composes, it weakens, and what it says of numbers of steps.
use Rattle.std.proofs.Common.{◌≡◌, ℕ, zero, suc, ◌+◌, ◌*◌, ◌≤◌, ap, ◌∙◌, arith}
use Rattle.std.proofs.Math.Nat.{mul-le-mul_left}
use Rattle.run_agreement.specs.Agreements.{AgreesWithin, FollowsUnstuck}
use Rattle.run_agreement.specs.Costs.{AgreesBy, Any, IsMet, IsReached, Reaches, Through, cost_at, cost_from}
use Rattle.run_agreement.specs.Machines.{IsFine, Machine, Stays, at, iterate, state_at}
use Rattle.run_agreement.proofs.Compose.{counts_by, follows_on}
use Rattle.run_agreement.proofs.Runs.{fine_earlier}

-- ---- sums of prices

pub cost-add : {S : Type 0} (f : S → S) (price : S → ℕ) (m n : ℕ) (s : S) → cost_from f price (m + n) s ≡ cost_from f price m s + cost_from f price n (iterate f m s)
cost-add f price zero n s =
    let e : 0 + n ≡ n = omega arith in
    ap (λ i. cost_from f price i s) e ∙ none (cost_from f price n s)
  where
    none : (x : ℕ) → x ≡ 0 + x
    none x = omega arith
cost-add f price (suc m) n s =
    let e : suc m + n ≡ suc (m + n) = omega arith in
    let rest = cost-add f price m n (f s) in
    ap (λ i. cost_from f price i s) e ∙ ap (λ i. price s + i) rest ∙ sums (price s) (cost_from f price m (f s)) (cost_from f price n (iterate f m (f s)))
  where
    sums : (x y z : ℕ) → x + (y + z) ≡ (x + y) + z
    sums x y z = omega arith

-- where each step costs at most k
pub cost_below : {S : Type 0} (f : S → S) (price : S → ℕ) (k : ℕ) → ((s : S) → price s ≤ k) → (n : ℕ) (s : S) → cost_from f price n s ≤ k * n
cost_below f price k h zero s = omega arith
cost_below f price k h (suc n) s = below k n (price s) (cost_from f price n (f s)) (h s) (cost_below f price k h n (f s))
  where
    below : (k n x y : ℕ) → x ≤ k → y ≤ k * n → x + y ≤ k * suc n
    below k n x y p q = let e : k * suc n ≡ k + k * n = grind arith in omega arith

-- where each step costs k or more
pub cost_above : {S : Type 0} (f : S → S) (price : S → ℕ) (k : ℕ) → ((s : S) → k ≤ price s) → (n : ℕ) (s : S) → k * n ≤ cost_from f price n s
cost_above f price k h zero s = omega arith
cost_above f price k h (suc n) s = above k n (price s) (cost_from f price n (f s)) (h s) (cost_above f price k h n (f s))
  where
    above : (k n x y : ℕ) → k ≤ x → k * n ≤ y → k * suc n ≤ x + y
    above k n x y p q = let e : k * suc n ≡ k + k * n = grind arith in omega arith

-- a price that is too high at some steps is made up for at others, by a credit that states of the run hold
pub cost_paid : {S : Type 0} (a : Machine S) (price fair : S → ℕ) (I : S → Type 0) (credit : S → ℕ) → Stays a → ((s : S) → I s → IsFine (a.seen (a.step s)).outcome → I (a.step s) × (price s + credit (a.step s) ≤ fair s + credit s)) → (n : ℕ) (s : S) → I s → IsFine (a.seen (iterate a.step n s)).outcome → cost_from a.step price n s ≤ cost_from a.step fair n s + credit s
cost_paid a price fair I credit stays h zero s i fine = omega arith
cost_paid a price fair I credit stays h (suc n) s i fine =
    let x = h s i (fine_earlier a stays n (a.step s) fine) in
    paid (price s) (fair s) (credit s) (credit (a.step s)) (cost_from a.step price n (a.step s)) (cost_from a.step fair n (a.step s)) x.1 (cost_paid a price fair I credit stays h n (a.step s) x.0 fine)
  where
    paid : (x y c d u v : ℕ) → x + d ≤ y + c → u ≤ v + d → x + u ≤ (y + v) + c
    paid x y c d u v p q = omega arith

through : (i j k : ℕ) → i ≤ j → j ≤ k → i ≤ k
through i j k g h = omega arith

-- ---- composition

module _ {S T U : Type 0} (R V : S → T → Type 0) (Q W : T → U → Type 0) (a : Machine S) (price : S → ℕ) (b : Machine T) (cost : T → ℕ) (c : Machine U) (last : U → ℕ) where
  met_through : (n m i : ℕ) → ((j : ℕ) → j ≤ m → IsMet V a b n j) → IsMet W b c m i → IsMet (Through V W) a c n i
  met_through n m i p y = let x = p y.steps y.early in record { steps = x.steps; early = x.early; holds = (state_at b y.steps, x.holds, y.holds) }

  reaches_through : (n : ℕ) (x : Reaches R V a price b cost n) → Reaches Q W b cost c last x.steps → Reaches (Through R Q) (Through V W) a price c last n
  reaches_through n x y = record {
    steps = y.steps;
    few = through (cost_at c last y.steps) (cost_at b cost x.steps) (cost_at a price n) y.few x.few;
    follows = follows_on _ _ _ x.follows y.follows;
    related = (state_at b x.steps, x.related, y.related);
    unstuck = y.unstuck;
    between = λ i le. met_through n x.steps i x.between (y.between i le);
  }

  reached_through : (m : ℕ) (y : IsReached W b c m) → IsReached V a b y.steps → IsReached (Through V W) a c m
  reached_through m y x = record { steps = x.steps; fine = y.fine; follows = follows_on _ _ _ y.follows x.follows; holds = (state_at b y.steps, x.holds, y.holds) }

  -- agreement by costs composes
  pub compose_by : AgreesBy R V a price b cost → AgreesBy Q W b cost c last → AgreesBy (Through R Q) (Through V W) a price c last
  compose_by p q = record {
    forward = λ n fine. let x = p.forward n fine in reaches_through n x (q.forward x.steps (x.unstuck x.steps (omega arith)));
    back = λ fine m. let y = q.back (λ i. (p.back fine i).fine) m in reached_through m y (p.back fine y.steps);
    counts = counts_by (at a) (at b) (at c) (λ n fine. let x = p.forward n fine in (x.steps, x.follows)) p.counts q.counts;
  }

-- ---- other prices and relations

module _ {S T : Type 0} (R V Q W : S → T → Type 0) (a : Machine S) (price given : S → ℕ) (b : Machine T) (cost spent : T → ℕ) where
  met_as : ((s : S) (t : T) → V s t → W s t) → (n m : ℕ) → IsMet V a b n m → IsMet W a b n m
  met_as g n m x = record { steps = x.steps; early = x.early; holds = g _ _ x.holds }

  -- agreement holds with weaker relations, where the first has no less and the second spends no more
  pub weaken_by : ((s : S) (t : T) → R s t → Q s t) → ((s : S) (t : T) → V s t → W s t) → ((n : ℕ) → IsFine (at a n).outcome → cost_at a price n ≤ cost_at a given n) → ((m : ℕ) → cost_at b spent m ≤ cost_at b cost m) → AgreesBy R V a price b cost → AgreesBy Q W a given b spent
  weaken_by f g more less p = record {
    forward = λ n fine.
        let x = p.forward n fine in
        record {
          steps = x.steps;
          few = through (cost_at b spent x.steps) (cost_at b cost x.steps) (cost_at a given n) (less x.steps) (through (cost_at b cost x.steps) (cost_at a price n) (cost_at a given n) x.few (more n fine));
          follows = x.follows;
          related = f _ _ x.related;
          unstuck = x.unstuck;
          between = λ i le. met_as g n i (x.between i le);
        };
    back = λ fine m. let x = p.back fine m in record { steps = x.steps; fine = x.fine; follows = x.follows; holds = g _ _ x.holds };
    counts = p.counts;
  }

-- ---- numbers of steps

-- of runs that agree by costs the second takes at most k steps for one of the first, where the first has at most k for each of its steps and the second spends 1 or more
pub agrees_within : {S T : Type 0} (R V : S → T → Type 0) (a : Machine S) (price : S → ℕ) (b : Machine T) (cost : T → ℕ) (k : ℕ) → ((n : ℕ) → IsFine (at a n).outcome → cost_at a price n ≤ k * n) → ((m : ℕ) → m ≤ cost_at b cost m) → AgreesBy R V a price b cost → AgreesWithin k (at a) (at b)
agrees_within R V a price b cost k below above p = record {
  runs = record {
    carried_down = λ fine n. let x = reached n (fine n) in record { steps = x.steps; few = x.few; follows = x.follows };
    never_stuck = λ fine m. (p.back fine m).fine;
    nothing_invented = λ fine m. let x = p.back fine m in record { steps = x.steps; follows = x.follows };
    prefix = reached;
  };
  counts = p.counts;
}
  where
    few : (n m i j : ℕ) → m ≤ i → i ≤ j → j ≤ k * n → m ≤ k * n + 0
    few n m i j u v w = omega arith

    reached : (n : ℕ) → IsFine (at a n).outcome → FollowsUnstuck (k * n + 0) (at a n) (at b)
    reached n fine =
        let x = p.forward n fine in
        record { steps = x.steps; few = few n x.steps (cost_at b cost x.steps) (cost_at a price n) (above x.steps) x.few (below n fine); follows = x.follows; unstuck = x.unstuck }

-- the same by the price of each step
pub agrees_within_by_steps : {S T : Type 0} (R V : S → T → Type 0) (a : Machine S) (price : S → ℕ) (b : Machine T) (cost : T → ℕ) (k : ℕ) → ((s : S) → price s ≤ k) → ((t : T) → 1 ≤ cost t) → AgreesBy R V a price b cost → AgreesWithin k (at a) (at b)
agrees_within_by_steps R V a price b cost k below above p = agrees_within R V a price b cost k (λ n fine. cost_below a.step price k below n a.start) (λ m. one (cost_at b cost m) m (cost_above b.step cost 1 above m b.start)) p
  where
    one : (x m : ℕ) → 1 * m ≤ x → m ≤ x
    one x m h = omega arith

-- runs that agree within k agree by costs, where the second spends at most w for each of its steps and the first has w times k
pub agrees_by : {S T : Type 0} (a : Machine S) (price : S → ℕ) (b : Machine T) (cost : T → ℕ) (k w : ℕ) → ((n : ℕ) → IsFine (at a n).outcome → (w * k) * n ≤ cost_at a price n) → ((m : ℕ) → cost_at b cost m ≤ w * m) → AgreesWithin k (at a) (at b) → AgreesBy Any Any a price b cost
agrees_by a price b cost k w above below p = record {
  forward = λ n fine.
      let x = p.runs.prefix n fine in
      record {
        steps = x.steps;
        few = spent n x.steps (cost_at b cost x.steps) (cost_at a price n) x.few (below x.steps) (above n fine);
        follows = x.follows;
        related = tt;
        unstuck = x.unstuck;
        between = λ i le. record { steps = 0; early = omega arith; holds = tt };
      };
  back = λ fine m. let x = p.runs.nothing_invented fine m in record { steps = x.steps; fine = p.runs.never_stuck fine m; follows = x.follows; holds = tt };
  counts = p.counts;
}
  where
    spent : (n m x y : ℕ) → m ≤ k * n + 0 → x ≤ w * m → (w * k) * n ≤ y → x ≤ y
    spent n m x y h f g =
        let less : m ≤ k * n = omega arith in
        let most : w * m ≤ w * (k * n) = mul-le-mul_left w less in
        let e : w * (k * n) ≡ (w * k) * n = grind arith in
        omega arith

-- the same by the price of each step
pub agrees_by_steps : {S T : Type 0} (a : Machine S) (price : S → ℕ) (b : Machine T) (cost : T → ℕ) (k w : ℕ) → ((s : S) → w * k ≤ price s) → ((t : T) → cost t ≤ w) → AgreesWithin k (at a) (at b) → AgreesBy Any Any a price b cost
agrees_by_steps a price b cost k w above below p = agrees_by a price b cost k w (λ n fine. cost_above a.step price (w * k) above n a.start) (λ m. cost_below b.step cost w below m b.start) p
