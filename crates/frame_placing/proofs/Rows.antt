-- Rows of the fields that come before each field, pair by pair.
use Rattle.std.proofs.Common.{◌≡◌, ℕ, ◌+◌, ◌<◌, ◌≤◌, ◌⊎◌, List, [], ◌∷◌, ◌++◌, length, take, get_or, replicate, Bool, true, false, Option, Some, refl, sym, ap, ◌∙◌, subst, ⊎_elim, inl, inr, arith}
use Rattle.std.specs.Prelude.{slice_get, slice_set, nat_lt, ◌&&◌, IsTrue, if◌then◌else◌}
use Rattle.std.specs.List.{Contains}
use Rattle.std.proofs.lemmas.Bool.{and_from, and_left, and_parts, and_right, both_ways, le-ltb, ltb-true, lt-ltb}
use Rattle.std.proofs.lemmas.List.{length-set, length-replicate, get_or-replicate, take_more, take_all}
use Rattle.std.proofs.lemmas.List.Elements.{Contains-append_left, Contains-push, Contains-push_cases}
use Rattle.std.proofs.lemmas.Option.{slice_get_within, slice_get-get_or, same_Some}
use Rattle.frame_placing.specs.Placed.{IsPair}
use Rattle.frame_placing.specs.Rooms.{comes_first}
use Rattle.frame_placing.specs.Steps.{AreEarlier, with_note}
use Rattle.frame_placing.specs.declared.room.Room.{Room}
use Rattle.frame_placing.proofs.Places.{set_cases}

none_at : (n k : ℕ) (row : List ℕ) → slice_get (replicate n []) k ≡ Some row → row ≡ []
none_at n k row e =
    let lt = slice_get_within (replicate n []) k row e in
    let len = length-replicate {A = List ℕ} n [] in
    let below : k < n = omega (arith, lt, len) in
    same_Some row [] (sym e ∙ (slice_get-get_or (replicate n []) k [] lt ∙ ap (λ (z : List ℕ). Some z) (get_or-replicate n k [] [] below)))

none_listed : (row : List ℕ) (j : ℕ) → row ≡ [] → Contains row j → ⊥
none_listed row j e c = let lt = c.1 in let len = ap length e in omega (arith, lt, len)

pub rows_begin : (rooms : List Room) (promise : Option ℕ) (pairs : List (ℕ × ℕ)) (rows : List (List ℕ)) → rows ≡ replicate (length rooms) [] → AreEarlier rooms promise (IsPair (take 0 pairs)) rows
rows_begin rooms promise pairs rows is = subst (AreEarlier rooms promise (IsPair [])) (sym is) (record {
  one_each = length-replicate (length rooms) [];
  listed = λ k j row e c. absurd (none_listed row j (none_at (length rooms) k row e) c);
  lists = λ k j row e lt first h. absurd (⊎_elim none none h);
})
  where
    none : {p : ℕ × ℕ} → Contains [] p → ⊥
    none {p} c = let lt = c.1 in omega (arith, lt)

-- the same rows, by conflicts that say the same
rows_by : (rooms : List Room) (promise : Option ℕ) (C D : ℕ → ℕ → Type 0) (rows : List (List ℕ)) → ((j k : ℕ) → C j k → D j k) → ((j k : ℕ) → D j k → C j k) → AreEarlier rooms promise C rows → AreEarlier rooms promise D rows
rows_by rooms promise C D rows to fro h = record {
  one_each = h.one_each;
  listed = λ k j row e c. let p = h.listed k j row e c in (p.0, (p.1.0, to j k p.1.1));
  lists = λ k j row e lt first d. h.lists k j row e lt first (fro j k d);
}

abbrev OrPair : (ℕ → ℕ → Type 0) → ℕ → ℕ → ℕ → ℕ → Type 0
OrPair C first second j k = C j k ⊎ ((j ≡ first) × (k ≡ second))

noted : (rooms : List Room) (promise : Option ℕ) (C : ℕ → ℕ → Type 0) (first second : ℕ) (rows : List (List ℕ)) → AreEarlier rooms promise C rows → first < length rooms → second < length rows →
    IsTrue (comes_first rooms promise first second) → AreEarlier rooms promise (OrPair C first second) (slice_set rows second (get_or rows second [] ++ first ∷ []))
noted rooms promise C first second rows h lt in_rows before = record {
  one_each = length-set rows second (get_or rows second [] ++ first ∷ []) ∙ h.one_each;
  listed = λ k j row e c. ⊎_elim
      (λ p. ⊎_elim
      (λ old. let q = h.listed second j (get_or rows second []) at old in (q.0, (subst (λ (z : ℕ). IsTrue (comes_first rooms promise j z)) (sym p.0) q.1.0, inl (subst (C j) (sym p.0) q.1.1))))
      (λ same. (subst (λ (z : ℕ). z < length rooms) same lt, (subst (λ (z : ℕ). IsTrue (comes_first rooms promise j z)) (sym p.0) (subst (λ (z : ℕ). IsTrue (comes_first rooms promise z second)) same before), inr (sym same, p.0))))
      (Contains-push_cases (get_or rows second []) first j (subst (λ (l : List ℕ). Contains l j) p.1 c)))
      (λ p. let q = h.listed k j row p.0 c in (q.0, (q.1.0, inl q.1.1)))
      (set_cases rows second k (get_or rows second [] ++ first ∷ []) row e);
  lists = λ k j row e less is d. ⊎_elim
      (λ p. subst (λ (l : List ℕ). Contains l j) (sym p.1) (⊎_elim
      (λ c. Contains-append_left (get_or rows second []) (first ∷ []) j (h.lists second j (get_or rows second []) at less (subst (λ (z : ℕ). IsTrue (comes_first rooms promise j z)) p.0 is) (subst (C j) p.0 c)))
      (λ q. subst (Contains (get_or rows second [] ++ first ∷ [])) (sym q.0) (Contains-push (get_or rows second []) first))
      d))
      (λ p. ⊎_elim (λ c. h.lists k j row p.0 less is c) (λ q. absurd (p.1 q.1)) d)
      (set_cases rows second k (get_or rows second [] ++ first ∷ []) row e);
}
  where
    at : slice_get rows second ≡ Some (get_or rows second [])
    at = slice_get-get_or rows second [] in_rows

not_noted : (rooms : List Room) (promise : Option ℕ) (C : ℕ → ℕ → Type 0) (first second : ℕ) (rows : List (List ℕ)) → AreEarlier rooms promise C rows →
    (first < length rooms → second < length rows → IsTrue (comes_first rooms promise first second) → ⊥) → AreEarlier rooms promise (OrPair C first second) rows
not_noted rooms promise C first second rows h none = record {
  one_each = h.one_each;
  listed = λ k j row e c. let q = h.listed k j row e c in (q.0, (q.1.0, inl q.1.1));
  lists = λ k j row e less is d. ⊎_elim
      (λ c. h.lists k j row e less is c)
      (λ q. absurd (none (subst (λ (z : ℕ). z < length rooms) q.0 less) (subst (λ (z : ℕ). z < length rows) q.1 (slice_get_within rows k row e))
      (subst (λ (z : ℕ). IsTrue (comes_first rooms promise first z)) q.1 (subst (λ (z : ℕ). IsTrue (comes_first rooms promise z k)) q.0 is))))
      d;
}

one_note : (rooms : List Room) (promise : Option ℕ) (C : ℕ → ℕ → Type 0) (first second : ℕ) (rows : List (List ℕ)) → AreEarlier rooms promise C rows → AreEarlier rooms promise (OrPair C first second) (with_note rooms promise first second rows)
unfolding with_note
one_note rooms promise C first second rows h = go (nat_lt first (length rooms) && (nat_lt second (length rows) && comes_first rooms promise first second)) refl
  where
    go : (t : Bool) → (nat_lt first (length rooms) && (nat_lt second (length rows) && comes_first rooms promise first second)) ≡ t →
        AreEarlier rooms promise (OrPair C first second) (if t then slice_set rows second (get_or rows second [] ++ first ∷ []) else rows)
    go true e =
        let p = and_parts (nat_lt first (length rooms)) (nat_lt second (length rows) && comes_first rooms promise first second) e in
        let q = and_parts (nat_lt second (length rows)) (comes_first rooms promise first second) p.1 in
        noted rooms promise C first second rows h (ltb-true first (length rooms) p.0) (ltb-true second (length rows) q.0) q.1
    go false e = not_noted rooms promise C first second rows h (λ a b is. both_ways _ e
        (and_from (nat_lt first (length rooms)) (nat_lt second (length rows) && comes_first rooms promise first second) (lt-ltb first (length rooms) a)
        (and_from (nat_lt second (length rows)) (comes_first rooms promise first second) (lt-ltb second (length rows) b) is)))

-- a pair of the list says what both its orders say
pair_by : (rooms : List Room) (promise : Option ℕ) (before after : List (ℕ × ℕ)) (x y : ℕ) (rows one two : List (List ℕ)) → after ≡ before ++ (x, y) ∷ [] → AreEarlier rooms promise (IsPair before) rows →
    one ≡ with_note rooms promise x y rows → two ≡ with_note rooms promise y x one → AreEarlier rooms promise (IsPair after) two
pair_by rooms promise before after x y rows one two grown h is_one is_two =
    rows_by rooms promise (OrPair (OrPair (IsPair before) x y) y x) (IsPair after) two to fro
    (subst (AreEarlier rooms promise (OrPair (OrPair (IsPair before) x y) y x)) (sym is_two) (one_note rooms promise (OrPair (IsPair before) x y) y x one
    (subst (AreEarlier rooms promise (OrPair (IsPair before) x y)) (sym is_one) (one_note rooms promise (IsPair before) x y rows h))))
  where
    old : (p : ℕ × ℕ) → Contains before p → Contains after p
    old p c = subst (λ (l : List (ℕ × ℕ)). Contains l p) (sym grown) (Contains-append_left before ((x, y) ∷ []) p c)

    new : (j k : ℕ) → j ≡ x → k ≡ y → Contains after (j, k)
    new j k e f = subst (λ (l : List (ℕ × ℕ)). Contains l (j, k)) (sym grown)
        (subst (λ (z : ℕ). Contains (before ++ (x, y) ∷ []) (z, k)) (sym e) (subst (λ (z : ℕ). Contains (before ++ (x, y) ∷ []) (x, z)) (sym f) (Contains-push before (x, y))))

    to : (j k : ℕ) → OrPair (OrPair (IsPair before) x y) y x j k → IsPair after j k
    to j k h = ⊎_elim
        (λ a. ⊎_elim (λ b. ⊎_elim (λ c. inl (old (j, k) c)) (λ c. inr (old (k, j) c)) b) (λ p. inl (new j k p.0 p.1)) a)
        (λ p. inr (new k j p.1 p.0))
        h

    split : (j k : ℕ) → Contains after (j, k) → Contains before (j, k) ⊎ ((j ≡ x) × (k ≡ y))
    split j k c = ⊎_elim (λ d. inl d) (λ e. inr (ap (λ (p : ℕ × ℕ). p.0) (sym e), ap (λ (p : ℕ × ℕ). p.1) (sym e))) (Contains-push_cases before (x, y) (j, k) (subst (λ (l : List (ℕ × ℕ)). Contains l (j, k)) grown c))

    fro : (j k : ℕ) → IsPair after j k → OrPair (OrPair (IsPair before) x y) y x j k
    fro j k h = ⊎_elim
        (λ c. ⊎_elim (λ d. inl (inl (inl d))) (λ p. inl (inr p)) (split j k c))
        (λ c. ⊎_elim (λ d. inl (inl (inr d))) (λ p. inr (p.1, p.0)) (split k j c))
        h

pub pair_noted : (rooms : List Room) (promise : Option ℕ) (pairs : List (ℕ × ℕ)) (i : ℕ) (rows one two : List (List ℕ)) → i < length pairs → AreEarlier rooms promise (IsPair (take i pairs)) rows →
    one ≡ with_note rooms promise (get_or pairs i (0, 0)).0 (get_or pairs i (0, 0)).1 rows → two ≡ with_note rooms promise (get_or pairs i (0, 0)).1 (get_or pairs i (0, 0)).0 one → AreEarlier rooms promise (IsPair (take (i + 1) pairs)) two
pair_noted rooms promise pairs i rows one two lt h is_one is_two =
    pair_by rooms promise (take i pairs) (take (i + 1) pairs) (get_or pairs i (0, 0)).0 (get_or pairs i (0, 0)).1 rows one two (take_more pairs i (0, 0) lt) h is_one is_two

pub all_noted : (rooms : List Room) (promise : Option ℕ) (pairs : List (ℕ × ℕ)) (i : ℕ) (rows : List (List ℕ)) → length pairs ≤ i → AreEarlier rooms promise (IsPair (take i pairs)) rows → AreEarlier rooms promise (IsPair pairs) rows
all_noted rooms promise pairs i rows le h = subst (λ (l : List (ℕ × ℕ)). AreEarlier rooms promise (IsPair l) rows) (take_all i pairs le) h

-- ---- whether a note is made

abbrev is_noted : List Room → Option ℕ → ℕ → ℕ → List (List ℕ) → Bool
is_noted rooms promise first second rows = nat_lt first (length rooms) && (nat_lt second (length rows) && comes_first rooms promise first second)

note_by : (rooms : List Room) (promise : Option ℕ) (first second : ℕ) (rows : List (List ℕ)) (t : Bool) → is_noted rooms promise first second rows ≡ t →
    with_note rooms promise first second rows ≡ (if t then slice_set rows second (get_or rows second [] ++ first ∷ []) else rows)
unfolding with_note
note_by rooms promise first second rows t e = ap (λ (b : Bool). if b then slice_set rows second (get_or rows second [] ++ first ∷ []) else rows) e

pub note_made : (rooms : List Room) (promise : Option ℕ) (first second : ℕ) (rows rows2 : List (List ℕ)) → first < length rooms → second < length rows → comes_first rooms promise first second ≡ true →
    rows2 ≡ slice_set rows second (get_or rows second [] ++ first ∷ []) → rows2 ≡ with_note rooms promise first second rows
note_made rooms promise first second rows rows2 a b is e =
    e ∙ sym (note_by rooms promise first second rows true
    (and_from (nat_lt first (length rooms)) _ (lt-ltb first (length rooms) a) (and_from (nat_lt second (length rows)) _ (lt-ltb second (length rows) b) is)))

pub no_note_first : (rooms : List Room) (promise : Option ℕ) (first second : ℕ) (rows : List (List ℕ)) → length rooms ≤ first → rows ≡ with_note rooms promise first second rows
no_note_first rooms promise first second rows le = sym (note_by rooms promise first second rows false (and_left (nat_lt first (length rooms)) _ (le-ltb first (length rooms) le)))

pub no_note_second : (rooms : List Room) (promise : Option ℕ) (first second : ℕ) (rows : List (List ℕ)) → length rows ≤ second → rows ≡ with_note rooms promise first second rows
no_note_second rooms promise first second rows le =
    sym (note_by rooms promise first second rows false (and_right (nat_lt first (length rooms)) _ (and_left (nat_lt second (length rows)) _ (le-ltb second (length rows) le))))

pub no_note_before : (rooms : List Room) (promise : Option ℕ) (first second : ℕ) (rows : List (List ℕ)) → comes_first rooms promise first second ≡ false → rows ≡ with_note rooms promise first second rows
no_note_before rooms promise first second rows e =
    sym (note_by rooms promise first second rows false (and_right (nat_lt first (length rooms)) _ (and_right (nat_lt second (length rows)) _ e)))
