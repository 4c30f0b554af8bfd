-- Where fields are placed, the layout is good.
use Rattle.std.proofs.Common.{◌≡◌, ◌≢◌, ◌⊎◌, inl, inr, ⊎_elim, ℕ, zero, suc, ◌+◌, ◌%◌, ◌<◌, ◌≤◌, ◌^◌, Bool, true, false, List, [], ◌∷◌, length, max, Option, None, Some, refl, sym, ap, ◌∙◌, subst, arith}
use Rattle.std.specs.Prelude.{◌||◌, IsTrue, Ok, nat_le, nat_lt, option_map, slice_get, slice_index, slice_index_or, unwrap_or, if◌then◌else◌}
use Rattle.std.specs.Int.{next_multiple_of}
use Rattle.std.specs.List.{list_any}
use Rattle.std.proofs.lemmas.Bool.{cases_Bool, cases_lt, eq-eqb, lt-ltb}
use Rattle.std.proofs.lemmas.Bool.Decides.{nat_tests}
use Rattle.std.proofs.lemmas.List.{length-map}
use Rattle.std.proofs.lemmas.Option.{get_or_from_slice_get, slice_get-map, slice_get_within}
use Rattle.frame_placing.proofs.Firsts.{is_total, none_before}
use Rattle.frame_placing.proofs.Greatest.{ends_before}
use Rattle.frame_placing.specs.Ends.{end_of}
use Rattle.frame_placing.specs.Placed.{Always, IsByteOf, IsItsPlace, IsPair, IsPlaced}
use Rattle.frame_placing.specs.Placings.{IsFrame, frame_alignment}
use Rattle.frame_placing.specs.Rooms.{alignment_at, comes_first, is_promise, size_at}
use Rattle.frame_placing.specs.declared.placing.Placing.{Placing}
use Rattle.frame_placing.specs.declared.room.Room.{Room}
use Rattle.frame_layout.specs.Layouts.{IsLaidOut, IsLaidOutPlain, IsLayoutBy, index_offset, placed, promise_of, room_of, rooms_of}
use Rattle.frame_layout.specs.Layouts as layouts
use Rattle.frame_layout.specs.declared.layout.Field.{Field}
use Rattle.frame_layout.specs.declared.layout.Layout.{Layout}
use Rattle.frame_layout.specs.declared.layout.PlacedField.{PlacedField}
use Rattle.frame_good.proofs.Fields.{IsFine, fine, found_at}
use Rattle.frame_good.specs.Good.{AreApart, AreFit, AreShown, IsGoodField, IsGoodLayout, offset_of}

-- ---- the size

record IsRounded (end size align : ℕ) : Type 0 where
  multiple : size % align ≡ 0
  up : end ≤ size
  from : 17 ≤ end → 24 ≤ size
  within : end ≤ 2 ^ 24 → size ≤ 2 ^ 24

rounded_to : (end : ℕ) (b : Bool) → IsRounded end (next_multiple_of end (if b then 16 else 8)) (if b then 16 else 8)
rounded_to end true = record {
  multiple = omega arith;
  up = omega arith;
  from = λ h. omega (arith, h);
  within = λ h. omega (arith, h);
}
rounded_to end false = record {
  multiple = omega arith;
  up = omega arith;
  from = λ h. omega (arith, h);
  within = λ h. omega (arith, h);
}

abbrev IsEither : ℕ → Type 0
IsEither n = (n ≡ 8) ⊎ (n ≡ 16)

alignment_of : (b : Bool) → IsEither (if b then 16 else 8)
alignment_of true = inr refl
alignment_of false = inl refl

-- ---- the alignment

needs_sixteen : (rooms : List Room) → Bool
needs_sixteen rooms = list_any (λ room. nat_le 16 room.align) rooms

none_sixteen : (fields : List Field) (k : ℕ) (x : Field) → slice_get fields k ≡ Some x
    → list_any (λ (room : Room). nat_le 16 room.align) (rooms_of fields) ≡ false → x.align < 16
none_sixteen [] k x there none = absurd (cc)
none_sixteen (y ∷ ys) zero x there none =
    let same : y ≡ x = cc in
    let low : nat_le 16 y.align ≡ false = first (nat_le 16 y.align)
    (list_any (λ (room : Room). nat_le 16 room.align) (rooms_of ys)) none in
    subst (λ (z : Field). z.align < 16) same (below y.align low)
  where
    first : (a b : Bool) → (a || b) ≡ false → a ≡ false
    first true b e = e
    first false b e = refl

    below : (a : ℕ) → nat_le 16 a ≡ false → a < 16
    below a e = grind (arith, nat_tests)
none_sixteen (y ∷ ys) (suc k) x there none = none_sixteen ys k x there
    (second (nat_le 16 y.align) (list_any (λ (room : Room). nat_le 16 room.align) (rooms_of ys)) none)
  where
    second : (a b : Bool) → (a || b) ≡ false → b ≡ false
    second true b e = absurd (cc)
    second false b e = e

aligned_by : (fields : List Field) (k : ℕ) (x : Field) → slice_get fields k ≡ Some x → IsFine x.align
    → x.align ≤ frame_alignment (rooms_of fields)
aligned_by fields k x there f = on (list_any (λ (room : Room). nat_le 16 room.align) (rooms_of fields)) refl
  where
    on : (b : Bool) → list_any (λ (room : Room). nat_le 16 room.align) (rooms_of fields) ≡ b
        → x.align ≤ (if b then 16 else 8)
    on true e = f.most
    on false e = f.low (none_sixteen fields k x there e)

-- ---- the fields

module _ (coroutine : ℕ) (fields : List Field) (fit : AreFit fields) (Conflict : ℕ → ℕ → Type 0)
    (turned : (j k : ℕ) → Conflict j k → Conflict k j) (offsets : List ℕ)
    (laid : IsPlaced (rooms_of fields) (promise_of fields) Conflict offsets)
    (low : end_of (rooms_of fields) offsets ≤ 2 ^ 24) (placing : Placing)
    (frame : IsFrame (rooms_of fields) offsets placing) (l : Layout) (by : IsLayoutBy coroutine fields placing l) where
  rooms : List Room
  rooms = rooms_of fields

  same_offsets : l.offsets ≡ offsets
  same_offsets = by.offsets_are ∙ frame.offsets_are

  at_offset : (k : ℕ) → offset_of l k ≡ slice_index offsets k
  at_offset k = ap (λ (os : List ℕ). slice_index_or os k 0) same_offsets

  within_rooms : (k : ℕ) (x : Field) → slice_get fields k ≡ Some x → k < length (rooms_of fields)
  within_rooms k x there = let same : length (rooms_of fields) ≡ length fields = length-map fields room_of in
      let h = slice_get_within fields k x there in omega (arith, same, h)

  its_room : (k : ℕ) (x : Field) → slice_get fields k ≡ Some x
      → slice_index_or (rooms_of fields) k (record { size = 0; align = 1 }) ≡ room_of x
  its_room k x there = get_or_from_slice_get (rooms_of fields) k (room_of x) (record { size = 0; align = 1 })
      (slice_get-map room_of fields k ∙ ap (option_map room_of) there)

  its_size : (k : ℕ) (x : Field) → slice_get fields k ≡ Some x → size_at (rooms_of fields) k ≡ x.size
  its_size k x there = ap (λ (r : Room). r.size) (its_room k x there)

  its_alignment : (k : ℕ) (x : Field) → slice_get fields k ≡ Some x → alignment_at (rooms_of fields) k ≡ max x.align 1
  its_alignment k x there = ap (λ (r : Room). max r.align 1) (its_room k x there)

  place_of : (k : ℕ) (x : Field) → slice_get fields k ≡ Some x
      → IsItsPlace (rooms_of fields) (promise_of fields) Conflict offsets k (slice_index offsets k)
  place_of k x there = laid.each k (within_rooms k x there)

  fine_at : (k : ℕ) (x : Field) → slice_get fields k ≡ Some x → IsFine x.align
  fine_at k x there = fine x.align (fit.aligned k x there)

  -- ---- one field

  from_header : (k : ℕ) (x : Field) → slice_get fields k ≡ Some x → 16 ≤ slice_index offsets k
  from_header k x there = ⊎_elim
      (λ (e : is_promise (promise_of fields) k ≡ true). let at = (place_of k x there).promise_behind_header e in
      omega (arith, at))
      (λ (e : is_promise (promise_of fields) k ≡ false). ((place_of k x there).can_stand e).from_header)
      (cases_Bool (is_promise (promise_of fields) k))

  aligned_at : (k : ℕ) (x : Field) → slice_get fields k ≡ Some x → slice_index offsets k % max x.align 1 ≡ 0
  aligned_at k x there = ⊎_elim
      (λ (e : is_promise (promise_of fields) k ≡ true). ap (λ (n : ℕ). n % max x.align 1)
      ((place_of k x there).promise_behind_header e) ∙ (fine_at k x there).divides)
      (λ (e : is_promise (promise_of fields) k ≡ false). ap (λ (n : ℕ). slice_index offsets k % n)
      (sym (its_alignment k x there)) ∙ ((place_of k x there).can_stand e).aligned)
      (cases_Bool (is_promise (promise_of fields) k))

  ends_in : (k : ℕ) (x : Field) → slice_get fields k ≡ Some x
      → slice_index offsets k + x.size ≤ end_of (rooms_of fields) offsets
  ends_in k x there =
      let h = ends_before (rooms_of fields) offsets (length (rooms_of fields)) k (within_rooms k x there) in
      let same = its_size k x there in
      omega (arith, h, same)

  promise_there : (k : ℕ) (x : Field) → slice_get fields k ≡ Some x → IsTrue (layouts.is_promise x.kind)
      → slice_index offsets k ≡ 16
  promise_there k x there is =
      let found : promise_of fields ≡ Some k = found_at (λ (f : Field). layouts.is_promise f.kind) fields k x there is
      (λ j y e p. fit.one_promise j k y x e there p is) in
      (place_of k x there).promise_behind_header (ap (λ (o : Option ℕ). is_promise o k) found ∙ eq-eqb k k refl)

  index_there : (k : ℕ) (x : Field) → slice_get fields k ≡ Some x → IsTrue (layouts.is_index x.kind)
      → offset_of l k ≡ l.index
  index_there k x there is =
      let found = found_at (λ (f : Field). layouts.is_index f.kind) fields k x there is
      (λ j y e p. fit.one_index j k y x e there p is) in
      at_offset k
      ∙ sym (ap (λ (os : List ℕ). slice_index_or os k 0) frame.offsets_are)
      ∙ sym (ap (λ (o : Option ℕ). slice_index_or placing.offsets (unwrap_or o (length fields)) 0) found)
      ∙ sym by.index_is

  -- ---- the frame

  size_rounded : IsRounded (end_of (rooms_of fields) offsets) l.size l.align
  size_rounded =
      let align : l.align ≡ frame_alignment (rooms_of fields) = by.align_is ∙ frame.align_is in
      let size : l.size ≡ next_multiple_of (end_of (rooms_of fields) offsets) (frame_alignment (rooms_of fields)) =
      by.size_is ∙ frame.size_is ∙ (λ i. next_multiple_of (frame.end_is i) (frame.align_is i)) in
      subst (λ (n : ℕ). IsRounded (end_of (rooms_of fields) offsets) n l.align) (sym size)
      (subst (λ (a : ℕ). IsRounded (end_of (rooms_of fields) offsets)
      (next_multiple_of (end_of (rooms_of fields) offsets) (frame_alignment (rooms_of fields))) a) (sym align)
      (rounded_to (end_of (rooms_of fields) offsets)
      (list_any (λ (room : Room). nat_le 16 room.align) (rooms_of fields))))

  good_field : (k : ℕ) (x : Field) → slice_get fields k ≡ Some x → IsGoodField l x (offset_of l k)
  good_field k x there =
      record {
        behind_header = (let e = at_offset k in let h = from_header k x there in omega (arith, e, h));
        inside = (let e = at_offset k in let h = ends_in k x there in let up = size_rounded.up in
            omega (arith, e, h, up));
        aligned = ap (λ (n : ℕ). n % max x.align 1) (at_offset k) ∙ aligned_at k x there;
        in_aligned = subst (λ (n : ℕ). x.align ≤ n) (sym (by.align_is ∙ frame.align_is))
            (aligned_by fields k x there (fine_at k x there));
        promise_at = λ is. at_offset k ∙ promise_there k x there is;
        index_at = λ is. index_there k x there is;
      }

  -- ---- two fields

  apart_behind : (j k : ℕ) (x y : Field) → slice_get fields j ≡ Some x → slice_get fields k ≡ Some y
      → comes_first (rooms_of fields) (promise_of fields) j k ≡ true → Conflict j k
      → AreApart (slice_index offsets j) x.size (slice_index offsets k) y.size
  apart_behind j k x y at here first h byte one other = ⊎_elim
      (λ (e : is_promise (promise_of fields) k ≡ true). none_before (rooms_of fields) (promise_of fields) j k e first)
      (λ (e : is_promise (promise_of fields) k ≡ false).
      ((place_of k y here).can_stand e).apart byte
      (subst (λ (n : ℕ). IsByteOf byte (slice_index offsets k) n) (sym (its_size k y here)) other)
      (record {
        by = j;
        is_field = within_rooms j x at;
        is_before = first;
        in_conflict = h;
        is_its = subst (λ (n : ℕ). IsByteOf byte (slice_index offsets j) n) (sym (its_size j x at)) one;
      }))
      (cases_Bool (is_promise (promise_of fields) k))

  apart_two : (j k : ℕ) (x y : Field) → slice_get fields j ≡ Some x → slice_get fields k ≡ Some y → j ≢ k
      → Conflict j k → AreApart (slice_index offsets j) x.size (slice_index offsets k) y.size
  apart_two j k x y at here ne h = ⊎_elim
      (λ (e : comes_first (rooms_of fields) (promise_of fields) j k ≡ true). apart_behind j k x y at here e h)
      (λ (e : comes_first (rooms_of fields) (promise_of fields) j k ≡ false). λ byte one other.
      apart_behind k j y x here at (is_total (rooms_of fields) (promise_of fields) j k ne e)
      (turned j k h) byte other one)
      (cases_Bool (comes_first (rooms_of fields) (promise_of fields) j k))

  -- ---- what is shown

  all_shown : AreShown fields l
  all_shown =
      record {
        each = λ k lt.
            let a = by.is_order.has_each k (subst (λ (n : ℕ). k < n)
            (sym (counted placing.offsets frame.offsets_are)) lt) in
            (a.0, shown_at a.0 k a.1);
        only = λ a x e. on a x (slice_get by.order a) refl
            (sym (slice_get-map (placed fields placing.offsets) by.order a)
            ∙ sym (ap (λ (ps : List PlacedField). slice_get ps a) by.fields_are) ∙ e);
      }
    where
      counted : (os : List ℕ) → os ≡ offsets → length os ≡ length fields
      counted os e = ap (λ (xs : List ℕ). length xs) e ∙ laid.one_each ∙ length-map fields room_of

      shown_at : (a k : ℕ) → slice_get by.order a ≡ Some k → slice_get l.fields a ≡ Some (placed fields l.offsets k)
      shown_at a k e =
          ap (λ (ps : List PlacedField). slice_get ps a) by.fields_are
          ∙ slice_get-map (placed fields placing.offsets) by.order a
          ∙ ap (option_map (placed fields placing.offsets)) e
          ∙ ap (λ (os : List ℕ). Some (placed fields os k)) (sym by.offsets_are)

      on : (a : ℕ) (x : PlacedField) (o : Option ℕ) → slice_get by.order a ≡ o
          → option_map (placed fields placing.offsets) o ≡ Some x
          → (k : ℕ) × (k < length fields) × (x ≡ placed fields l.offsets k)
      on a x None e f = absurd (cc)
      on a x (Some k) e f =
          let inside = by.is_order.inside a k e in
          let same : placed fields placing.offsets k ≡ x = cc in (
            k,
            subst (λ (n : ℕ). k < n) (counted placing.offsets frame.offsets_are) inside,
            sym same
                ∙ ap (λ (os : List ℕ). placed fields os k) (sym by.offsets_are),
          )

  -- ---- the layout

  pub good : (C : ℕ → ℕ → Type 0) → ((j k : ℕ) → C j k → Conflict j k) → IsGoodLayout coroutine fields C l
  good C inner =
      record {
        is_of = by.coroutine_is;
        one_each = ap (λ (xs : List ℕ). length xs) same_offsets ∙ laid.one_each ∙ length-map fields room_of;
        each = good_field;
        apart = λ j k x y at here ne c.
            subst (λ (n : ℕ). AreApart n x.size (offset_of l k) y.size) (sym (at_offset j))
            (subst (λ (n : ℕ). AreApart (slice_index offsets j) x.size n y.size) (sym (at_offset k))
            (apart_two j k x y at here ne (inner j k c)));
        shown = all_shown;
        alignment = subst IsEither (sym (by.align_is ∙ frame.align_is))
            (alignment_of (list_any (λ (room : Room). nat_le 16 room.align) (rooms_of fields)));
        rounded = size_rounded.multiple;
        from = size_rounded.from (
            let h = from_header fit.last fit.index fit.is_there in
            let e = ends_in fit.last fit.index fit.is_there in
            let some = fit.takes_bytes in
            omega (arith, h, e, some));
        within = size_rounded.within low;
      }

-- ---- both layouts

always_turned : (j k : ℕ) → Always j k → Always k j
always_turned j k h = tt

pair_turned : (conflicts : List (ℕ × ℕ)) (j k : ℕ) → IsPair conflicts j k → IsPair conflicts k j
pair_turned conflicts j k h = ⊎_elim (λ a. inr a) (λ b. inl b) h

pub plain_good : (coroutine : ℕ) (fields : List Field) (l : Layout) → AreFit fields
    → IsLaidOutPlain coroutine fields (Ok l) → IsGoodLayout coroutine fields Always l
plain_good coroutine fields l fit h =
    let p = h.1 in
    good coroutine fields fit Always always_turned p.plain p.plain_placed p.told.0 h.0 p.told.1 l h.2 Always
    (λ j k c. c)

pub shared_good : (coroutine : ℕ) (fields : List Field) (conflicts : List (ℕ × ℕ)) (l : Layout) → AreFit fields
    → IsLaidOut coroutine fields conflicts (Ok l) → IsGoodLayout coroutine fields (IsPair conflicts) l
shared_good coroutine fields conflicts l fit h = on
    (nat_lt (end_of (rooms_of fields) h.1.plain) (end_of (rooms_of fields) h.1.shared)) refl h.1.told.1
  where
    on : (b : Bool) → nat_lt (end_of (rooms_of fields) h.1.plain) (end_of (rooms_of fields) h.1.shared) ≡ b
        → IsFrame (rooms_of fields) (if b then h.1.plain else h.1.shared) h.0
        → IsGoodLayout coroutine fields (IsPair conflicts) l
    on true e f = good coroutine fields fit Always always_turned h.1.plain h.1.plain_placed h.1.told.0 h.0 f l h.2
        (IsPair conflicts) (λ j k c. tt)
    on false e f = good coroutine fields fit (IsPair conflicts) (pair_turned conflicts) h.1.shared h.1.shared_placed
        (⊎_elim
        (λ (lt : end_of (rooms_of fields) h.1.plain < end_of (rooms_of fields) h.1.shared). let no : true ≡ false = sym
        (lt-ltb (end_of (rooms_of fields) h.1.plain) (end_of (rooms_of fields) h.1.shared) lt) ∙ e in absurd (cc))
        (λ (ge : end_of (rooms_of fields) h.1.shared ≤ end_of (rooms_of fields) h.1.plain). let below = h.1.told.0 in
        omega (arith, ge, below))
        (cases_lt (end_of (rooms_of fields) h.1.plain) (end_of (rooms_of fields) h.1.shared)))
        h.0 f l h.2 (IsPair conflicts) (λ j k c. c)
