-- Placing field by field gives each its place, and no other placing is there.
use Rattle.std.proofs.Common.{◌≡◌, ◌≢◌, ℕ, ◌+◌, ◌<◌, ◌≤◌, List, length, replicate, Bool, true, false, Option, Some, refl, sym, ap, ◌∙◌, subst, ⊎_elim, arith}
use Rattle.std.specs.Prelude.{slice_get, slice_set, slice_index, unwrap_or, IsTrue}
use Rattle.std.proofs.lemmas.Bool.{cases_Bool, cases_lt}
use Rattle.std.proofs.lemmas.List.{length-set, length-replicate}
use Rattle.std.proofs.lemmas.Option.{get_or_from_slice_get, same_Some, slice_get_within, unwrap_or-slice_get}
use Rattle.std.proofs.Math.Nat.{mod-one}
use Rattle.frame_placing.specs.Bars.{IsFree, IsLeastFree}
use Rattle.frame_placing.specs.Placed.{CanStand, IsByteOf, IsItsPlace, IsPlaced, IsTaken}
use Rattle.frame_placing.specs.Rooms.{comes_first, is_promise, size_at}
use Rattle.frame_placing.specs.Steps.{AreTaken, HasNoRoom, HasRoom, IsOrder, IsPlacedWithin, IsUnderway, NoneWithin, placed_by}
use Rattle.frame_placing.specs.declared.bars.Bar.{Bar}
use Rattle.frame_placing.specs.declared.room.Room.{Room}
use Rattle.frame_placing.proofs.Firsts.{none_before}
use Rattle.frame_placing.proofs.Greatest.{end_within, ends_before}
use Rattle.frame_placing.proofs.Places.{set_here, set_other}

pub index_kept : (offsets : List ℕ) (j k x : ℕ) → j ≢ k → slice_index offsets j ≡ slice_index (slice_set offsets k x) j
index_kept offsets j k x ne = sym (unwrap_or-slice_get offsets j 0) ∙ ap (λ (o : Option ℕ). unwrap_or o 0) (sym (set_other offsets k j x ne)) ∙ unwrap_or-slice_get (slice_set offsets k x) j 0

pub index_set : (offsets : List ℕ) (k x : ℕ) → k < length offsets → slice_index (slice_set offsets k x) k ≡ x
index_set offsets k x lt = get_or_from_slice_get (slice_set offsets k x) k x 0 (set_here offsets k x lt)

module _ (rooms : List Room) (promise : Option ℕ) (Conflict : ℕ → ℕ → Type 0) where
  -- ---- a place depends on the fields that come first alone

  taken_moved : (offsets others : List ℕ) (k byte : ℕ) → ((j : ℕ) → j < length rooms → IsTrue (comes_first rooms promise j k) → slice_index offsets j ≡ slice_index others j) →
      IsTaken rooms promise Conflict offsets k byte → IsTaken rooms promise Conflict others k byte
  taken_moved offsets others k byte same t = record {
    by = t.by;
    is_field = t.is_field;
    is_before = t.is_before;
    in_conflict = t.in_conflict;
    is_its = subst (λ (x : ℕ). IsByteOf byte x (size_at rooms t.by)) (same t.by t.is_field t.is_before) t.is_its;
  }

  stand_moved : (offsets others : List ℕ) (k x : ℕ) → ((j : ℕ) → j < length rooms → IsTrue (comes_first rooms promise j k) → slice_index offsets j ≡ slice_index others j) →
      CanStand rooms promise Conflict offsets k x → CanStand rooms promise Conflict others k x
  stand_moved offsets others k x same s = record {
    from_header = s.from_header;
    aligned = s.aligned;
    apart = λ byte i t. s.apart byte i (taken_moved others offsets k byte (λ j lt is. sym (same j lt is)) t);
  }

  pub place_moved : (offsets others : List ℕ) (k x : ℕ) → ((j : ℕ) → j < length rooms → IsTrue (comes_first rooms promise j k) → slice_index offsets j ≡ slice_index others j) →
      IsItsPlace rooms promise Conflict offsets k x → IsItsPlace rooms promise Conflict others k x
  place_moved offsets others k x same p = record {
    promise_behind_header = p.promise_behind_header;
    can_stand = λ no. stand_moved offsets others k x same (p.can_stand no);
    least = λ no y s. p.least no y (stand_moved others offsets k y (λ j lt is. sym (same j lt is)) s);
  }

  -- a field has one place
  pub one_place : (offsets : List ℕ) (k x y : ℕ) → IsItsPlace rooms promise Conflict offsets k x → IsItsPlace rooms promise Conflict offsets k y → x ≡ y
  one_place offsets k x y p q = ⊎_elim
      (λ yes. p.promise_behind_header yes ∙ sym (q.promise_behind_header yes))
      (λ no. let a = p.least no y (q.can_stand no) in let b = q.least no x (p.can_stand no) in omega (arith, a, b))
      (cases_Bool (is_promise promise k))

  -- ---- bars that cover what is taken

  place_is_free : (offsets : List ℕ) (k x : ℕ) (bars : List Bar) → AreTaken rooms promise Conflict offsets k bars → IsItsPlace rooms promise Conflict offsets k x → IsFree bars (size_at rooms k) (placed_by rooms promise k) x
  place_is_free offsets k x bars t p = go (is_promise promise k) refl
    where
      go : (b : Bool) → is_promise promise k ≡ b → IsFree bars (size_at rooms k) (placed_by rooms promise k) x
      go true e = record {
        from_header = let at = p.promise_behind_header e in omega (arith, at);
        aligned = rw e (mod-one x);
        apart = λ byte i c. let h = t.taken byte c in absurd (none_before rooms promise h.by k e h.is_before);
      }
      go false e = let s = p.can_stand e in record {
        from_header = s.from_header;
        aligned = rw e s.aligned;
        apart = λ byte i c. s.apart byte i (t.taken byte c);
      }

  pub least_is_place : (offsets : List ℕ) (k x : ℕ) (bars : List Bar) → AreTaken rooms promise Conflict offsets k bars → IsLeastFree bars (size_at rooms k) (placed_by rooms promise k) x → IsItsPlace rooms promise Conflict offsets k x
  least_is_place offsets k x bars t h = record {
    promise_behind_header = λ yes.
        let low = h.is_free.from_header in
        let free : IsFree bars (size_at rooms k) (placed_by rooms promise k) 16 = record {
          from_header = omega arith;
          aligned = rw yes (mod-one 16);
          apart = λ byte i c. (let u = t.taken byte c in none_before rooms promise u.by k yes u.is_before);
        } in
        let high = h.least 16 free in omega (arith, low, high);
    can_stand = λ no. record {
      from_header = h.is_free.from_header;
      aligned = rw no at h.is_free.aligned;
      apart = λ byte i u. h.is_free.apart byte i (t.covered byte u);
    };
    least = λ no y s. h.least y (record {
      from_header = s.from_header;
      aligned = rw no s.aligned;
      apart = λ byte i c. s.apart byte i (t.taken byte c);
    });
  }

  -- ---- the steps

  module _ (order : List ℕ) (is_order : IsOrder rooms promise order) (limit : ℕ) where
    pub underway_begins : (offsets : List ℕ) → offsets ≡ replicate (length rooms) 0 → IsUnderway rooms promise Conflict order limit 0 offsets
    underway_begins offsets is = record {
      one_each = ap length is ∙ length-replicate (length rooms) 0;
      placed = λ a k lt at. absurd (omega (arith, lt));
      within = λ a k lt at. absurd (omega (arith, lt));
      only = λ other h a k lt at. absurd (omega (arith, lt));
    }

    -- what comes before a field of the order stands before it there
    pub stands_at : (a j k : ℕ) → slice_get order a ≡ Some k → j < length rooms → IsTrue (comes_first rooms promise j k) → (b : ℕ) × (slice_get order b ≡ Some j) × (b < a)
    stands_at a j k at lt first = let found = is_order.has_each j lt in (found.0, found.1, is_order.rises found.0 a j k found.1 at first)

    pub other_field : (done a j k : ℕ) → slice_get order done ≡ Some k → slice_get order a ≡ Some j → a < done → j ≢ k
    other_field done a j k here there lt same = let one = is_order.has_once a done k (there ∙ ap (λ (x : ℕ). Some x) same) here in omega (arith, one, lt)

    -- the fields that come first are not moved by placing one
    earlier_kept : (offsets : List ℕ) (done a k x i : ℕ) → slice_get order done ≡ Some k → slice_get order a ≡ Some i → a ≤ done → (j : ℕ) → j < length rooms → IsTrue (comes_first rooms promise j i) →
        slice_index offsets j ≡ slice_index (slice_set offsets k x) j
    earlier_kept offsets done a k x i here there le j lt first =
        let found = stands_at a j i there lt first in
        let less : found.0 < done = (let b = found.2 in omega (arith, b, le)) in
        index_kept offsets j k x (other_field done found.0 j k here found.1 less)

    -- where the fields so far stand as any placing has them, it has the next as they do
    other_place : (offsets other : List ℕ) (done k : ℕ) → IsUnderway rooms promise Conflict order limit done offsets → slice_get order done ≡ Some k → IsPlaced rooms promise Conflict other →
        IsItsPlace rooms promise Conflict offsets k (slice_index other k)
    other_place offsets other done k u here h =
        place_moved other offsets k (slice_index other k) (λ j lt first. let found = stands_at done j k here lt first in u.only other h found.0 j found.2 found.1) (h.each k (is_order.inside done k here))

    pub one_placed : (offsets : List ℕ) (done k x : ℕ) → IsUnderway rooms promise Conflict order limit done offsets → slice_get order done ≡ Some k → IsItsPlace rooms promise Conflict offsets k x →
        x + size_at rooms k ≤ limit → IsUnderway rooms promise Conflict order limit (done + 1) (slice_set offsets k x)
    one_placed offsets done k x u here p le = record {
      one_each = length-set offsets k x ∙ u.one_each;
      placed = λ a i lt at. ⊎_elim
          (λ (less : a < done).
          let ne = other_field done a i k here at less in
          let value = index_kept offsets i k x ne in
          subst (IsItsPlace rooms promise Conflict (slice_set offsets k x) i) value
          (place_moved offsets (slice_set offsets k x) i (slice_index offsets i) (earlier_kept offsets done a k x i here at (omega (arith, less))) (u.placed a i less at)))
          (λ (ge : done ≤ a).
          let same = is_k a i lt ge at in
          subst (λ (z : ℕ). IsItsPlace rooms promise Conflict (slice_set offsets k x) z (slice_index (slice_set offsets k x) z)) (sym same)
          (subst (IsItsPlace rooms promise Conflict (slice_set offsets k x) k) (sym now) (place_moved offsets (slice_set offsets k x) k x (earlier_kept offsets done done k x k here here (omega arith)) p)))
          (cases_lt a done);
      within = λ a i lt at. ⊎_elim
          (λ (less : a < done).
          let value = index_kept offsets i k x (other_field done a i k here at less) in
          let old = u.within a i less at in omega (arith, value, old))
          (λ (ge : done ≤ a). subst (λ (z : ℕ). slice_index (slice_set offsets k x) z + size_at rooms z ≤ limit) (sym (is_k a i lt ge at)) (omega (arith, now, le)))
          (cases_lt a done);
      only = λ other h a i lt at. ⊎_elim
          (λ (less : a < done). u.only other h a i less at ∙ index_kept offsets i k x (other_field done a i k here at less))
          (λ (ge : done ≤ a). subst (λ (z : ℕ). slice_index other z ≡ slice_index (slice_set offsets k x) z) (sym (is_k a i lt ge at))
          (one_place offsets k (slice_index other k) x (other_place offsets other done k u here h) p ∙ sym now))
          (cases_lt a done);
    }
      where
        inside : k < length offsets
        inside = let lt = is_order.inside done k here in let e = u.one_each in omega (arith, lt, e)

        now : slice_index (slice_set offsets k x) k ≡ x
        now = index_set offsets k x inside

        is_k : (a i : ℕ) → a < done + 1 → done ≤ a → slice_get order a ≡ Some i → i ≡ k
        is_k a i lt ge at = let same : a ≡ done = omega (arith, lt, ge) in same_Some i k (sym at ∙ (ap (slice_get order) same ∙ here))

    -- with room beside the bars of what is taken
    pub room_placed : (offsets : List ℕ) (done k x : ℕ) (bars : List Bar) → IsUnderway rooms promise Conflict order limit done offsets → slice_get order done ≡ Some k → AreTaken rooms promise Conflict offsets k bars →
        HasRoom rooms promise bars k limit x → IsUnderway rooms promise Conflict order limit (done + 1) (slice_set offsets k x)
    room_placed offsets done k x bars u here t r = one_placed offsets done k x u here (least_is_place offsets k x bars t r.is_least) r.within

    -- where there is no room, every placing ends behind the limit
    pub no_room : (offsets : List ℕ) (done k : ℕ) (bars : List Bar) → IsUnderway rooms promise Conflict order limit done offsets → slice_get order done ≡ Some k → AreTaken rooms promise Conflict offsets k bars →
        HasNoRoom rooms promise bars k limit → NoneWithin rooms promise Conflict limit
    no_room offsets done k bars u here t none other h =
        let free = place_is_free offsets k (slice_index other k) bars t (other_place offsets other done k u here h) in
        let past = none (slice_index other k) free in
        let end = ends_before rooms other (length rooms) k (is_order.inside done k here) in
        omega (arith, past, end)

    -- those that come before the next are placed
    pub earlier_within : (offsets : List ℕ) (done j k : ℕ) → IsUnderway rooms promise Conflict order limit done offsets → slice_get order done ≡ Some k → j < length rooms → IsTrue (comes_first rooms promise j k) →
        (j < length offsets) × (slice_index offsets j + size_at rooms j ≤ limit)
    earlier_within offsets done j k u here lt first =
        let found = stands_at done j k here lt first in
        let e = u.one_each in
        (omega (arith, lt, e), u.within found.0 j found.2 found.1)

    pub all_placed : (offsets : List ℕ) (done : ℕ) → length order ≤ done → 16 ≤ limit → IsUnderway rooms promise Conflict order limit done offsets → IsPlacedWithin rooms promise Conflict limit offsets
    all_placed offsets done all low u = record {
      placed = record {
        one_each = u.one_each;
        each = λ k lt. let found = is_order.has_each k lt in u.placed found.0 k (early found.0 k found.1) found.1;
      };
      each_within = each;
      ends = end_within rooms offsets limit (length rooms) low each;
    }
      where
        early : (a k : ℕ) → slice_get order a ≡ Some k → a < done
        early a k at = let lt = slice_get_within order a k at in omega (arith, lt, all)

        each : (k : ℕ) → k < length rooms → slice_index offsets k + size_at rooms k ≤ limit
        each k lt = let found = is_order.has_each k lt in u.within found.0 k (early found.0 k found.1) found.1
