-- How many fields come before a field.
use Rattle.std.proofs.Common.{◌≡◌, ℕ, zero, suc, ◌+◌, ◌<◌, ◌≤◌, Bool, true, false, cond, List, length, Option, refl, sym, ap, ◌∙◌, ⊎_elim, arith}
use Rattle.std.specs.Prelude.{IsTrue}
use Rattle.std.proofs.lemmas.Bool.{both_ways, cases_Bool, cases_lt}
use Rattle.frame_placing.specs.Rooms.{comes_first}
use Rattle.frame_placing.specs.declared.room.Room.{Room}
use Rattle.frame_placing.proofs.Firsts.{is_order}

pub count : (ℕ → Bool) → ℕ → ℕ
count p zero = 0
count p (suc n) = cond (p n) 1 0 + count p n

count_step : (p : ℕ → Bool) (n : ℕ) (b : Bool) → p n ≡ b → count p (suc n) ≡ cond b 1 0 + count p n
unfolding count
count_step p n b e = ap (λ (c : Bool). cond c 1 0 + count p n) e

count_none : (p : ℕ → Bool) → count p 0 ≡ 0
unfolding count
count_none p = refl

count_within : (p : ℕ → Bool) (n : ℕ) → count p n ≤ n
count_within p zero = let e = count_none p in omega (arith, e)
count_within p (suc n) =
    let h = count_within p n in
    ⊎_elim (λ e. let s = count_step p n true e in omega (arith, s, h)) (λ e. let s = count_step p n false e in omega (arith, s, h)) (cases_Bool (p n))

count_le : (p q : ℕ → Bool) (n : ℕ) → ((x : ℕ) → p x ≡ true → q x ≡ true) → count p n ≤ count q n
count_le p q zero h = let e = count_none p in omega (arith, e)
count_le p q (suc n) h =
    let below = count_le p q n h in
    ⊎_elim
    (λ e. let s = count_step p n true e in let t = count_step q n true (h n e) in omega (arith, s, t, below))
    (λ e. let s = count_step p n false e in ⊎_elim (λ f. let t = count_step q n true f in omega (arith, s, t, below)) (λ f. let t = count_step q n false f in omega (arith, s, t, below)) (cases_Bool (q n)))
    (cases_Bool (p n))

count_lt : (p q : ℕ → Bool) (n i : ℕ) → ((x : ℕ) → p x ≡ true → q x ≡ true) → i < n → p i ≡ false → q i ≡ true → count p n < count q n
count_lt p q zero i h lt e f = absurd (omega arith)
count_lt p q (suc n) i h lt e f = ⊎_elim
    (λ (less : i < n).
    let below = count_lt p q n i h less e f in
    ⊎_elim
    (λ a. let s = count_step p n true a in let t = count_step q n true (h n a) in omega (arith, s, t, below))
    (λ a. let s = count_step p n false a in ⊎_elim (λ b. let t = count_step q n true b in omega (arith, s, t, below)) (λ b. let t = count_step q n false b in omega (arith, s, t, below)) (cases_Bool (q n)))
    (cases_Bool (p n)))
    (λ (ge : n ≤ i).
    let same : i ≡ n = omega (arith, lt, ge) in
    let s = count_step p n false (ap p (sym same) ∙ e) in
    let t = count_step q n true (ap q (sym same) ∙ f) in
    let below = count_le p q n h in
    omega (arith, s, t, below))
    (cases_lt i n)

unfoldable pub rank : List Room → Option ℕ → ℕ → ℕ
rank rooms promise k = count (λ j. comes_first rooms promise j k) (length rooms)

pub rank_within : (rooms : List Room) (promise : Option ℕ) (k : ℕ) → rank rooms promise k ≤ length rooms
unfolding rank
rank_within rooms promise k = count_within (λ j. comes_first rooms promise j k) (length rooms)

not_itself : (rooms : List Room) (promise : Option ℕ) (k : ℕ) → comes_first rooms promise k k ≡ false
not_itself rooms promise k = ⊎_elim (λ e. (is_order rooms promise).one_way k k e) (λ e. e) (cases_Bool (comes_first rooms promise k k))

follows : (rooms : List Room) (promise : Option ℕ) (i j k : ℕ) → comes_first rooms promise i j ≡ true → comes_first rooms promise j k ≡ true → comes_first rooms promise i k ≡ true
follows rooms promise i j k e f = ⊎_elim
    (λ yes. yes)
    (λ no. absurd (both_ways (comes_first rooms promise i j) ((is_order rooms promise).chain i k j no ((is_order rooms promise).one_way j k f)) e))
    (cases_Bool (comes_first rooms promise i k))

-- what comes before a field has a lower rank
pub rank_rises : (rooms : List Room) (promise : Option ℕ) (j k : ℕ) → j < length rooms → IsTrue (comes_first rooms promise j k) → rank rooms promise j < rank rooms promise k
unfolding rank
rank_rises rooms promise j k lt first =
    count_lt (λ i. comes_first rooms promise i j) (λ i. comes_first rooms promise i k) (length rooms) j (λ i e. follows rooms promise i j k e first) lt (not_itself rooms promise j) first
