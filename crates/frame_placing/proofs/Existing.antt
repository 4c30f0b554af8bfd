-- Fields of every kind are placed somewhere.
use Rattle.std.proofs.Common.{◌≡◌, ℕ, zero, suc, ◌+◌, ◌*◌, ◌%◌, ◌<◌, ◌≤◌, ◌⊎◌, Bool, true, false, not, cond, List, length, map, max, min, Option, refl, sym, ap, ◌∙◌, subst, ⊎_elim, inl, inr, arith}
use Rattle.std.specs.Prelude.{slice_index, nat_eq, nat_le, nat_lt, ◌&&◌, ◌||◌}
use Rattle.std.specs.List.{range_with_len}
use Rattle.std.proofs.Math.Nat.{mul-mod_right}
use Rattle.std.proofs.lemmas.Bool.{and_from, and_parts, both_ways, cases_Bool, cases_lt, cond-false, cond-true, eq-eqb, eqb-true, false_from_ne_true, le-leb, leb-true, lt-ltb, ltb-true, ne_eqb, not-true, not_from_false, or_cases, or_left, or_right}
use Rattle.std.proofs.lemmas.List.FromFn.{get_or-map-range_with_len, length-map-range_with_len}
use Rattle.frame_placing.specs.Ends.{end_of_first}
use Rattle.frame_placing.specs.Placed.{CanStand, IsByteOf, IsItsPlace, IsPlaced, IsTaken}
use Rattle.frame_placing.specs.Rooms.{alignment_at, comes_first, is_promise, size_at}
use Rattle.frame_placing.specs.declared.room.Room.{Room}
use Rattle.frame_placing.proofs.Greatest.{ends_before}
use Rattle.frame_placing.proofs.Ranks.{rank, rank_rises, rank_within}
use Rattle.frame_placing.proofs.Stepping.{place_moved}

-- ---- numbers that pass a test

any_below : (ℕ → Bool) → ℕ → Bool
any_below p zero = false
any_below p (suc n) = p n || any_below p n

any_step : (p : ℕ → Bool) (n : ℕ) → any_below p (suc n) ≡ (p n || any_below p n)
unfolding any_below
any_step p n = refl

any_zero : (p : ℕ → Bool) → any_below p 0 ≡ false
unfolding any_below
any_zero p = refl

any_found : (p : ℕ → Bool) (n : ℕ) → any_below p n ≡ true → (i : ℕ) × (i < n) × (p i ≡ true)
any_found p zero e = absurd (both_ways (any_below p 0) (any_zero p) e)
any_found p (suc n) e = ⊎_elim
    (λ here. (n, omega arith, here))
    (λ below. let f = any_found p n below in (f.0, (let lt = f.1 in omega (arith, lt)), f.2))
    (or_cases (p n) (any_below p n) (sym (any_step p n) ∙ e))

any_from : (p : ℕ → Bool) (n i : ℕ) → i < n → p i ≡ true → any_below p n ≡ true
any_from p zero i lt e = absurd (omega arith)
any_from p (suc n) i lt e = any_step p n ∙ ⊎_elim
    (λ (less : i < n). or_right (p n) (any_below p n) (any_from p n i less e))
    (λ (ge : n ≤ i). let same : i ≡ n = omega (arith, lt, ge) in or_left (p n) (any_below p n) (ap p (sym same) ∙ e))
    (cases_lt i n)

abbrev Least : (ℕ → Bool) → Type 0
Least p = (x : ℕ) × (p x ≡ true) × ((y : ℕ) → p y ≡ true → x ≤ y)

none_or_least : (p : ℕ → Bool) (n : ℕ) → Least p ⊎ ((y : ℕ) → y < n → p y ≡ false)
none_or_least p zero = inr (λ y lt. absurd (omega (arith, lt)))
none_or_least p (suc n) = ⊎_elim
    (λ found. inl found)
    (λ none. ⊎_elim
    (λ yes. inl (n, yes, λ y e. ⊎_elim (λ (lt : y < n). absurd (both_ways (p y) (none y lt) e)) (λ (ge : n ≤ y). ge) (cases_lt y n)))
    (λ no. inr (λ y lt. ⊎_elim (λ (less : y < n). none y less) (λ (ge : n ≤ y). let same : y ≡ n = omega (arith, lt, ge) in ap p same ∙ no) (cases_lt y n)))
    (cases_Bool (p n)))
    (none_or_least p n)

least_of : (p : ℕ → Bool) (w : ℕ) → p w ≡ true → Least p
least_of p w e = ⊎_elim (λ found. found) (λ none. absurd (both_ways (p w) (none w (omega arith)) e)) (none_or_least p (suc w))

module _ (rooms : List Room) (promise : Option ℕ) (Conflict : ℕ → ℕ → Type 0) (test : ℕ → ℕ → Bool) (to : (j k : ℕ) → test j k ≡ true → Conflict j k) (fro : (j k : ℕ) → Conflict j k → test j k ≡ true) where
  -- ---- where a field can stand

  overlap : ℕ → ℕ → ℕ → ℕ → Bool
  overlap x s y t = nat_lt (max x y) (min (x + s) (y + t))

  overlap_from : (x s y t byte : ℕ) → IsByteOf byte x s → IsByteOf byte y t → overlap x s y t ≡ true
  unfolding overlap
  overlap_from x s y t byte i j = let a = i.0 in let b = i.1 in let c = j.0 in let d = j.1 in lt-ltb (max x y) (min (x + s) (y + t)) (omega (arith, a, b, c, d))

  overlap_byte : (x s y t : ℕ) → overlap x s y t ≡ true → IsByteOf (max x y) x s × IsByteOf (max x y) y t
  unfolding overlap
  overlap_byte x s y t e = let lt = ltb-true (max x y) (min (x + s) (y + t)) e in ((omega arith, omega (arith, lt)), (omega arith, omega (arith, lt)))

  blocks : List ℕ → ℕ → ℕ → ℕ → Bool
  blocks offsets k x j = comes_first rooms promise j k && (test j k && overlap x (size_at rooms k) (slice_index offsets j) (size_at rooms j))

  blocks_from : (offsets : List ℕ) (k x byte : ℕ) (t : IsTaken rooms promise Conflict offsets k byte) → IsByteOf byte x (size_at rooms k) → blocks offsets k x t.by ≡ true
  unfolding blocks
  blocks_from offsets k x byte t i =
      and_from (comes_first rooms promise t.by k) _ t.is_before
      (and_from (test t.by k) _ (fro t.by k t.in_conflict) (overlap_from x (size_at rooms k) (slice_index offsets t.by) (size_at rooms t.by) byte i t.is_its))

  blocks_taken : (offsets : List ℕ) (k x j : ℕ) → j < length rooms → blocks offsets k x j ≡ true → (byte : ℕ) × (IsByteOf byte x (size_at rooms k)) × IsTaken rooms promise Conflict offsets k byte
  unfolding blocks
  blocks_taken offsets k x j lt e =
      let p = and_parts (comes_first rooms promise j k) _ e in
      let q = and_parts (test j k) _ p.1 in
      let b = overlap_byte x (size_at rooms k) (slice_index offsets j) (size_at rooms j) q.1 in
      (max x (slice_index offsets j), b.0, record { by = j; is_field = lt; is_before = p.0; in_conflict = to j k q.0; is_its = b.1 })

  can_stand : List ℕ → ℕ → ℕ → Bool
  can_stand offsets k x = nat_le 16 x && (nat_eq (x % alignment_at rooms k) 0 && not (any_below (blocks offsets k x) (length rooms)))

  stand_from : (offsets : List ℕ) (k x : ℕ) → CanStand rooms promise Conflict offsets k x → can_stand offsets k x ≡ true
  unfolding can_stand
  stand_from offsets k x s =
      and_from (nat_le 16 x) _ (le-leb 16 x s.from_header)
      (and_from (nat_eq (x % alignment_at rooms k) 0) _ (eq-eqb (x % alignment_at rooms k) 0 s.aligned)
      (not_from_false (any_below (blocks offsets k x) (length rooms)) (false_from_ne_true (any_below (blocks offsets k x) (length rooms)) (λ e.
      let f = any_found (blocks offsets k x) (length rooms) e in
      let b = blocks_taken offsets k x f.0 f.1 f.2 in s.apart b.0 b.1 b.2))))

  stand_told : (offsets : List ℕ) (k x : ℕ) → can_stand offsets k x ≡ true → CanStand rooms promise Conflict offsets k x
  unfolding can_stand
  stand_told offsets k x e =
      let p = and_parts (nat_le 16 x) _ e in
      let q = and_parts (nat_eq (x % alignment_at rooms k) 0) _ p.1 in
      record {
        from_header = leb-true 16 x p.0;
        aligned = eqb-true (x % alignment_at rooms k) 0 q.0;
        apart = λ byte i t. both_ways (any_below (blocks offsets k x) (length rooms)) (not-true (any_below (blocks offsets k x) (length rooms)) q.1)
            (any_from (blocks offsets k x) (length rooms) t.by t.is_field (blocks_from offsets k x byte t i));
      }

  -- behind all fields each field can stand
  far_off : (offsets : List ℕ) (k : ℕ) → CanStand rooms promise Conflict offsets k (alignment_at rooms k * (16 + end_of_first rooms offsets (length rooms)))
  far_off offsets k =
      let end = end_of_first rooms offsets (length rooms) in
      let one : 1 ≤ alignment_at rooms k = omega arith in
      let up = at_least (alignment_at rooms k) (16 + end_of_first rooms offsets (length rooms)) one in
      record {
        from_header = omega (arith, up);
        aligned = mul-mod_right (alignment_at rooms k) (16 + end_of_first rooms offsets (length rooms));
        apart = λ byte i t. (let a = i.0 in let b = t.is_its.1 in let e = ends_before rooms offsets (length rooms) t.by t.is_field in omega (arith, a, b, e, up));
      }
    where
      at_least : (a n : ℕ) → 1 ≤ a → n ≤ a * n
      at_least a n le = grind arith

  place_of : (offsets : List ℕ) (k : ℕ) → (x : ℕ) × IsItsPlace rooms promise Conflict offsets k x
  place_of offsets k = ⊎_elim
      (λ yes. (16, record { promise_behind_header = λ e. refl; can_stand = λ no. absurd (both_ways (is_promise promise k) no yes); least = λ no. absurd (both_ways (is_promise promise k) no yes) }))
      (λ no. let found = least_of (can_stand offsets k) (alignment_at rooms k * (16 + end_of_first rooms offsets (length rooms))) (stand_from offsets k _ (far_off offsets k)) in (
        found.0,
        record {
          promise_behind_header = λ yes. absurd (both_ways (is_promise promise k) no yes);
          can_stand = λ e. stand_told offsets k found.0 found.1;
          least = λ e y s. found.2 y (stand_from offsets k y s);
        },
      ))
      (cases_Bool (is_promise promise k))

  -- ---- rank by rank

  listed : (ℕ → ℕ) → List ℕ
  listed f = map f (range_with_len 0 (length rooms))

  listed_at : (f : ℕ → ℕ) (k : ℕ) → k < length rooms → slice_index (listed f) k ≡ f k
  unfolding listed
  listed_at f k lt = get_or-map-range_with_len f 0 (length rooms) k k 0 lt (omega arith)

  place : ℕ → ℕ → ℕ
  place zero k = 0
  place (suc m) k = cond (nat_eq (rank rooms promise k) m) (place_of (listed (place m)) k).0 (place m k)

  place_step : (m k : ℕ) → place (suc m) k ≡ cond (nat_eq (rank rooms promise k) m) (place_of (listed (place m)) k).0 (place m k)
  unfolding place
  place_step m k = refl

  place_now : (m k : ℕ) → rank rooms promise k ≡ m → place (suc m) k ≡ (place_of (listed (place m)) k).0
  place_now m k e = place_step m k ∙ cond-true (nat_eq (rank rooms promise k) m) _ _ (eq-eqb (rank rooms promise k) m e)

  place_kept : (m k : ℕ) → rank rooms promise k < m → place (suc m) k ≡ place m k
  place_kept m k lt = place_step m k ∙ cond-false (nat_eq (rank rooms promise k) m) _ _ (ne_eqb (rank rooms promise k) m (λ e. omega (arith, lt, e)))

  kept_list : (m j : ℕ) → j < length rooms → rank rooms promise j < m → slice_index (listed (place m)) j ≡ slice_index (listed (place (suc m))) j
  kept_list m j lt low = listed_at (place m) j lt ∙ sym (place_kept m j low) ∙ sym (listed_at (place (suc m)) j lt)

  placed_below : (m k : ℕ) → k < length rooms → rank rooms promise k < m → IsItsPlace rooms promise Conflict (listed (place m)) k (place m k)
  placed_below zero k lt low = absurd (omega arith)
  placed_below (suc m) k lt low = ⊎_elim
      (λ (less : rank rooms promise k < m).
      subst (IsItsPlace rooms promise Conflict (listed (place (suc m))) k) (sym (place_kept m k less))
      (place_moved rooms promise Conflict (listed (place m)) (listed (place (suc m))) k (place m k)
      (λ j is first. let r = rank_rises rooms promise j k is first in kept_list m j is (omega (arith, r, less))) (placed_below m k lt less)))
      (λ (ge : m ≤ rank rooms promise k).
      let same : rank rooms promise k ≡ m = omega (arith, low, ge) in
      subst (IsItsPlace rooms promise Conflict (listed (place (suc m))) k) (sym (place_now m k same))
      (place_moved rooms promise Conflict (listed (place m)) (listed (place (suc m))) k (place_of (listed (place m)) k).0
      (λ j is first. let r = rank_rises rooms promise j k is first in kept_list m j is (omega (arith, r, same))) (place_of (listed (place m)) k).1))
      (cases_lt (rank rooms promise k) m)

  pub is_placed : (offsets : List ℕ) × IsPlaced rooms promise Conflict offsets
  unfolding listed
  is_placed = (
    listed (place (suc (length rooms))),
    record {
      one_each = length-map-range_with_len (place (suc (length rooms))) 0 (length rooms);
      each = λ k lt. subst (IsItsPlace rooms promise Conflict (listed (place (suc (length rooms)))) k) (sym (listed_at (place (suc (length rooms))) k lt))
          (placed_below (suc (length rooms)) k lt (let r = rank_within rooms promise k in omega (arith, r)));
    },
  )
