-- The bytes of fields on the sides of groups.
use Rattle.std.proofs.Common.{◌≡◌, ◌≢◌, ℕ, zero, suc, ◌+◌, ◌<◌, ◌≤◌, ◌⊎◌, List, [], ◌∷◌, ◌++◌, length, map, take, get_or, Option, Some, refl, sym, ap, ◌∙◌, subst, ⊎_elim, inl, inr, arith}
use Rattle.std.specs.Prelude.{slice_get, slice_set, slice_index}
use Rattle.std.specs.List.{Contains}
use Rattle.std.specs.List.Sorted.{IsNonDecreasingBy, IsPermutation}
use Rattle.std.proofs.lemmas.Bool.{cases_eq, cases_lt}
use Rattle.std.proofs.lemmas.List.{get_or-map, get_or-set_other, get_or-set_same, map-set, length-map, take_all, take_more}
use Rattle.std.proofs.lemmas.List.Elements.{Contains-append_left, Contains-push, Contains-push_cases}
use Rattle.std.proofs.lemmas.List.Sorted.{All-permutation, IsPermutation-sym}
use Rattle.std.proofs.lemmas.Option.{same_Some, slice_get-get_or}
use Rattle.frame_placing.specs.Bars.{AreBars, IsCovered, IsInBar, IsMore}
use Rattle.frame_placing.specs.Groups.{AreAllBars, AreMoreAt, CoverSide, CoverTaken, IsInGroups, IsOfSide, bars_of_groups}
use Rattle.frame_placing.specs.Placed.{AreKeptApart, AreOpposed, IsByteOf, IsPair}
use Rattle.frame_placing.specs.Rooms.{size_at}
use Rattle.frame_placing.specs.Steps.{AreEarlier, AreTaken, CoverFields, IsOfOne, IsOrder}
use Rattle.frame_placing.specs.declared.bars.Bar.{Bar}
use Rattle.frame_placing.specs.declared.room.Room.{Room}
use Rattle.frame_placing.proofs.Covers.{bars_from, covered_at, covered_first, covered_permuted, front_here, no_bars, none_covered}
use Rattle.frame_placing.proofs.Orders.{order_tells}
use Rattle.frame_placing.proofs.Stepping.{index_kept, index_set}

-- ---- two lists of bars

unfoldable pub AreFilled : List Bar → Type 0
AreFilled bars = (a : ℕ) (x : Bar) → slice_get bars a ≡ Some x → x.start < x.end

pub covered_left : (xs ys : List Bar) (byte : ℕ) → IsCovered xs byte → IsCovered (xs ++ ys) byte
covered_left xs ys byte c = covered_at (xs ++ ys) c.at c.bar byte (front_here xs ys c.at c.bar c.is_there) c.inside

behind : (xs ys : List Bar) (a : ℕ) (y : Bar) → slice_get ys a ≡ Some y → (b : ℕ) × (slice_get (xs ++ ys) b ≡ Some y)
behind [] ys a y e = (a, e)
behind (x ∷ xs) ys a y e = let p = behind xs ys a y e in (suc p.0, p.1)

pub covered_right : (xs ys : List Bar) (byte : ℕ) → IsCovered ys byte → IsCovered (xs ++ ys) byte
covered_right xs ys byte c = let p = behind xs ys c.at c.bar c.is_there in covered_at (xs ++ ys) p.0 c.bar byte p.1 c.inside

covered_later : (xs : List Bar) (x : Bar) (byte : ℕ) → IsCovered xs byte → IsCovered (x ∷ xs) byte
covered_later xs x byte c = covered_right (x ∷ []) xs byte c

pub covered_both : (xs ys : List Bar) (byte : ℕ) → IsCovered (xs ++ ys) byte → IsCovered xs byte ⊎ IsCovered ys byte
covered_both [] ys byte c = inr c
covered_both (x ∷ xs) ys byte c = ⊎_elim
    (λ h. ⊎_elim (λ l. inl (covered_later xs x byte l)) (λ r. inr r) (covered_both xs ys byte h))
    (λ i. inl (covered_at (x ∷ xs) 0 x byte refl i))
    (covered_first (xs ++ ys) x byte c)

pub filled_both : (xs ys : List Bar) → AreFilled xs → AreFilled ys → AreFilled (xs ++ ys)
unfolding AreFilled
filled_both [] ys h k a y e = k a y e
filled_both (x ∷ xs) ys h k zero y e = h zero y e
filled_both (x ∷ xs) ys h k (suc a) y e = filled_both xs ys (λ b z f. h (suc b) z f) k a y e

-- ---- the bars of groups

here_listed : (g : ℕ) (gs : List ℕ) → Contains (g ∷ gs) g
here_listed g gs = (0, omega arith, refl)

later_listed : (h g : ℕ) (gs : List ℕ) → Contains gs g → Contains (h ∷ gs) g
later_listed h g gs c = (suc c.0, (let lt = c.1 in omega (arith, lt)), c.2)

listed_cases : (h g : ℕ) (gs : List ℕ) → Contains (h ∷ gs) g → (h ≡ g) ⊎ Contains gs g
listed_cases h g gs (zero, lt, e) = inl e
listed_cases h g gs (suc a, lt, e) = inr (a, omega (arith, lt), e)

pub groups_told : (side : List (List Bar)) (groups : List ℕ) (byte : ℕ) → IsCovered (bars_of_groups side groups) byte → IsInGroups side groups byte
groups_told side [] byte c = absurd (none_covered byte c)
groups_told side (g ∷ gs) byte c = ⊎_elim
    (λ h. record { group = g; is_listed = here_listed g gs; is_covered = h })
    (λ h. let i = groups_told side gs byte h in record { group = i.group; is_listed = later_listed g i.group gs i.is_listed; is_covered = i.is_covered })
    (covered_both (get_or side g []) (bars_of_groups side gs) byte c)

groups_at : (side : List (List Bar)) (groups : List ℕ) (byte g : ℕ) → Contains groups g → IsCovered (get_or side g []) byte → IsCovered (bars_of_groups side groups) byte
groups_at side [] byte g c h = let lt = c.1 in absurd (omega (arith, lt))
groups_at side (x ∷ gs) byte g c h = ⊎_elim
    (λ same. covered_left (get_or side x []) (bars_of_groups side gs) byte (subst (λ (y : ℕ). IsCovered (get_or side y []) byte) (sym same) h))
    (λ later. covered_right (get_or side x []) (bars_of_groups side gs) byte (groups_at side gs byte g later h))
    (listed_cases x g gs c)

pub groups_covered : (side : List (List Bar)) (groups : List ℕ) (byte : ℕ) → IsInGroups side groups byte → IsCovered (bars_of_groups side groups) byte
groups_covered side groups byte i = groups_at side groups byte i.group i.is_listed i.is_covered

none_filled : AreFilled []
unfolding AreFilled
none_filled a x e = absurd (cc)

bars_filled : (bars : List Bar) → AreBars bars → AreFilled bars
unfolding AreFilled
bars_filled bars b = b.are_filled

pub groups_filled : (side : List (List Bar)) (groups : List ℕ) → AreAllBars side → AreFilled (bars_of_groups side groups)
groups_filled side [] h = none_filled
groups_filled side (g ∷ gs) h = filled_both (get_or side g []) (bars_of_groups side gs) (bars_filled (get_or side g []) (h g)) (groups_filled side gs h)

-- ---- more bytes in a group

pub no_group : (rooms : List Room) (order offsets : List ℕ) (rows : List (List ℕ)) → CoverSide rooms order 0 offsets rows []
no_group rooms order offsets rows = record {
  are_bars = λ g. no_bars;
  of_side = λ g byte c. absurd (none_covered byte c);
  covered = λ g byte f. let lt = f.is_done in absurd (omega (arith, lt));
}

pub grown_same : {X : Type 0} (bars_in : X → List Bar) (side : List X) (one : X) (g : ℕ) → bars_in one ≡ [] → get_or (map bars_in (side ++ one ∷ [])) g [] ≡ get_or (map bars_in side) g []
grown_same bars_in [] one zero e = e
grown_same bars_in [] one (suc g) e = refl
grown_same bars_in (x ∷ side) one zero e = refl
grown_same bars_in (x ∷ side) one (suc g) e = grown_same bars_in side one g e

pub same_bars : (old new : List (List Bar)) → ((g : ℕ) → get_or new g [] ≡ get_or old g []) → AreAllBars old → AreAllBars new
same_bars old new same h g = subst AreBars (sym (same g)) (h g)

pub more_at : (old : List (List Bar)) (group : ℕ) (more : Bar) (all : List Bar) → group < length old → AreAllBars old → IsMore (get_or old group []) more all → AreMoreAt old (group ∷ []) more (slice_set old group all)
more_at old group more all lt bars m = record {
  are_bars = λ g. ⊎_elim (λ p. subst AreBars (sym p.0) m.are_bars) (λ p. subst AreBars (sym p.0) (bars g)) (cases g);
  told = λ g byte c. ⊎_elim
      (λ p. ⊎_elim
      (λ h. inl (subst (λ (x : ℕ). IsCovered (get_or old x []) byte) (sym p.1) h))
      (λ i. inr (subst (Contains (group ∷ [])) (sym p.1) (here_listed group []), i))
      (m.told byte (subst (λ (l : List Bar). IsCovered l byte) p.0 c)))
      (λ p. inl (subst (λ (l : List Bar). IsCovered l byte) p.0 c))
      (cases g);
  has_others = λ g byte c. ⊎_elim
      (λ p. subst (λ (l : List Bar). IsCovered l byte) (sym p.0) (m.has_others byte (subst (λ (x : ℕ). IsCovered (get_or old x []) byte) p.1 c)))
      (λ p. subst (λ (l : List Bar). IsCovered l byte) (sym p.0) c)
      (cases g);
  has_more = λ g byte l i. ⊎_elim
      (λ p. subst (λ (l : List Bar). IsCovered l byte) (sym p.0) (m.has_more byte i))
      (λ p. absurd (⊎_elim (λ e. p.1 (sym e)) (λ none. let none_lt = none.1 in omega (arith, none_lt)) (listed_cases group g [] l)))
      (cases g);
}
  where
    cases : (g : ℕ) → ((get_or (slice_set old group all) g [] ≡ all) × (g ≡ group)) ⊎ ((get_or (slice_set old group all) g [] ≡ get_or old g []) × (g ≢ group))
    cases g = ⊎_elim
        (λ e. inl (ap (λ (x : ℕ). get_or (slice_set old group all) x []) e ∙ get_or-set_same old group all [] lt, e))
        (λ ne. inr (get_or-set_other old group g all [] ne, ne))
        (cases_eq g group)

-- a list of bars that was changed in its place
pub put_at : {X : Type 0} (bars_in : X → List Bar) (side : List X) (group : ℕ) (old new : X) (more : Bar) → group < length side → old ≡ get_or side group old → AreAllBars (map bars_in side) → IsMore (bars_in old) more (bars_in new) →
    AreMoreAt (map bars_in side) (group ∷ []) more (map bars_in (slice_set side group new))
put_at bars_in side group old new more lt is bars m =
    subst (AreMoreAt (map bars_in side) (group ∷ []) more) (sym (map-set bars_in side group new))
    (more_at (map bars_in side) group more (bars_in new) (let n = length-map side bars_in in omega (arith, lt, n)) bars
    (subst (λ (l : List Bar). IsMore l more (bars_in new)) (sym (get_or-map bars_in side group old [] lt ∙ ap bars_in (sym is))) m))

pub bars_there : {X : Type 0} (bars_in : X → List Bar) (side : List X) (group : ℕ) (old : X) → group < length side → old ≡ get_or side group old → AreAllBars (map bars_in side) → AreBars (bars_in old)
bars_there bars_in side group old lt is bars = subst AreBars (get_or-map bars_in side group old [] lt ∙ ap bars_in (sym is)) (bars group)

-- ---- and in each of several

pub more_begins : (old : List (List Bar)) (more : Bar) → AreAllBars old → AreMoreAt old [] more old
more_begins old more bars = record {
  are_bars = bars;
  told = λ g byte c. inl c;
  has_others = λ g byte c. c;
  has_more = λ g byte l i. let lt = l.1 in absurd (omega (arith, lt));
}

pub more_step : (old mid mid2 new : List (List Bar)) (groups : List ℕ) (i : ℕ) (more : Bar) → i < length groups → AreMoreAt old (take i groups) more mid → ((g : ℕ) → get_or mid2 g [] ≡ get_or mid g []) →
    AreMoreAt mid2 (get_or groups i 0 ∷ []) more new → AreMoreAt old (take (i + 1) groups) more new
more_step old mid mid2 new groups i more lt h same m = subst (λ (l : List ℕ). AreMoreAt old l more new) (sym (take_more groups i 0 lt)) (record {
  are_bars = m.are_bars;
  told = λ g byte c. ⊎_elim
      (λ before. ⊎_elim
      (λ first. inl first)
      (λ p. inr (Contains-append_left (take i groups) (get_or groups i 0 ∷ []) g p.0, p.1))
      (h.told g byte (subst (λ (l : List Bar). IsCovered l byte) (same g) before)))
      (λ p. inr (
        ⊎_elim
            (λ e. subst (Contains (take i groups ++ get_or groups i 0 ∷ [])) e (Contains-push (take i groups) (get_or groups i 0)))
            (λ none. let less = none.1 in absurd (omega (arith, less)))
            (listed_cases (get_or groups i 0) g [] p.0),
        p.1,
      ))
      (m.told g byte c);
  has_others = λ g byte c. m.has_others g byte (subst (λ (l : List Bar). IsCovered l byte) (sym (same g)) (h.has_others g byte c));
  has_more = λ g byte l k. ⊎_elim
      (λ before. m.has_others g byte (subst (λ (x : List Bar). IsCovered x byte) (sym (same g)) (h.has_more g byte before k)))
      (λ e. m.has_more g byte (subst (Contains (get_or groups i 0 ∷ [])) e (here_listed (get_or groups i 0) [])) k)
      (Contains-push_cases (take i groups) (get_or groups i 0) g l);
})

pub more_done : (old new : List (List Bar)) (groups : List ℕ) (i : ℕ) (more : Bar) → length groups ≤ i → AreMoreAt old (take i groups) more new → AreMoreAt old groups more new
more_done old new groups i more all h = subst (λ (l : List ℕ). AreMoreAt old l more new) (take_all i groups all) h

-- ---- one more field of the order

pub side_more : (rooms : List Room) (promise : Option ℕ) (order offsets : List ℕ) (rows : List (List ℕ)) (done k x : ℕ) (side side2 : List (List Bar)) → IsOrder rooms promise order → slice_get order done ≡ Some k → length offsets ≡ length rooms →
    CoverSide rooms order done offsets rows side → AreMoreAt side (get_or rows k []) (record { start = x; end = x + size_at rooms k }) side2 → CoverSide rooms order (done + 1) (slice_set offsets k x) rows side2
side_more rooms promise order offsets rows done k x side side2 o here len c m = record {
  are_bars = m.are_bars;
  of_side = λ g byte h. ⊎_elim
      (λ old. let f = c.of_side g byte old in
      record { at = f.at; by = f.by; is_done = (let lt = f.is_done in omega (arith, lt)); is_there = f.is_there; is_on = f.is_on; is_its = subst (λ (y : ℕ). IsByteOf byte y (size_at rooms f.by)) (kept f.at f.by f.is_done f.is_there) f.is_its })
      (λ p. record { at = done; by = k; is_done = omega arith; is_there = here; is_on = p.0; is_its = subst (λ (y : ℕ). IsByteOf byte y (size_at rooms k)) (sym now) p.1 })
      (m.told g byte h);
  covered = λ g byte f. ⊎_elim
      (λ (lt : f.at < done). m.has_others g byte (c.covered g byte
      (record { at = f.at; by = f.by; is_done = lt; is_there = f.is_there; is_on = f.is_on; is_its = subst (λ (y : ℕ). IsByteOf byte y (size_at rooms f.by)) (sym (kept f.at f.by lt f.is_there)) f.is_its })))
      (λ (ge : done ≤ f.at). let lt = f.is_done in let same : f.at ≡ done = omega (arith, lt, ge) in let one : f.by ≡ k = same_Some f.by k (sym f.is_there ∙ (ap (slice_get order) same ∙ here)) in
      m.has_more g byte (subst (λ (j : ℕ). Contains (get_or rows j []) g) one f.is_on)
      (subst (λ (y : ℕ). IsByteOf byte y (size_at rooms k)) now (subst (λ (j : ℕ). IsByteOf byte (slice_index (slice_set offsets k x) j) (size_at rooms j)) one f.is_its)))
      (cases_lt f.at done);
}
  where
    differs : (a j : ℕ) → a < done → slice_get order a ≡ Some j → j ≢ k
    differs a j lt at same = let one = o.has_once a done k (at ∙ ap (λ (y : ℕ). Some y) same) here in omega (arith, one, lt)

    kept : (a j : ℕ) → a < done → slice_get order a ≡ Some j → slice_index offsets j ≡ slice_index (slice_set offsets k x) j
    kept a j lt at = index_kept offsets j k x (differs a j lt at)

    now : slice_index (slice_set offsets k x) k ≡ x
    now = index_set offsets k x (let lt = o.inside done k here in omega (arith, lt, len))

-- ---- what is taken

pub all_taken : (rooms : List Room) (offsets fields : List ℕ) (ones others : List (List Bar)) (one other : List ℕ) (first second third sorted : List Bar) → CoverFields rooms offsets fields first → AreAllBars ones → AreAllBars others →
    second ≡ first ++ bars_of_groups others one → third ≡ second ++ bars_of_groups ones other → IsPermutation third sorted → IsNonDecreasingBy (λ (x : Bar). x.start) sorted → CoverTaken rooms offsets fields ones others one other sorted
unfolding AreFilled
all_taken rooms offsets fields ones others one other first second third sorted c ones_are others_are is_second is_third moved up = record {
  are_bars = bars_from sorted up (All-permutation (λ (x : Bar). x.start < x.end) third sorted moved (λ k d lt. filled k (get_or third k d) (slice_get-get_or third k d lt)));
  told = λ byte h. ⊎_elim
      (λ before. ⊎_elim
      (λ a. inl (c.of_one byte a))
      (λ a. inr (inl (groups_told others one byte a)))
      (covered_both first (bars_of_groups others one) byte (subst (λ (l : List Bar). IsCovered l byte) is_second before)))
      (λ a. inr (inr (groups_told ones other byte a)))
      (covered_both second (bars_of_groups ones other) byte (subst (λ (l : List Bar). IsCovered l byte) is_third (covered_permuted sorted third byte (IsPermutation-sym third sorted moved) h)));
  has_fields = λ byte h. from_second byte (subst (λ (l : List Bar). IsCovered l byte) (sym is_second) (covered_left first (bars_of_groups others one) byte (c.covered byte h)));
  has_others = λ byte h. from_second byte (subst (λ (l : List Bar). IsCovered l byte) (sym is_second) (covered_right first (bars_of_groups others one) byte (groups_covered others one byte h)));
  has_ones = λ byte h. from_third byte (subst (λ (l : List Bar). IsCovered l byte) (sym is_third) (covered_right second (bars_of_groups ones other) byte (groups_covered ones other byte h)));
}
  where
    filled : AreFilled third
    filled = subst AreFilled (sym is_third) (filled_both second (bars_of_groups ones other)
        (subst AreFilled (sym is_second) (filled_both first (bars_of_groups others one) c.are_bars.are_filled (groups_filled others one others_are)))
        (groups_filled ones other ones_are))

    from_third : (byte : ℕ) → IsCovered third byte → IsCovered sorted byte
    from_third byte h = covered_permuted third sorted byte moved h

    from_second : (byte : ℕ) → IsCovered second byte → IsCovered sorted byte
    from_second byte h = from_third byte (subst (λ (l : List Bar). IsCovered l byte) (sym is_third) (covered_left second (bars_of_groups ones other) byte h))

pub groups_taken : (rooms : List Room) (promise : Option ℕ) (conflicts : List (ℕ × ℕ)) (one other rows : List (List ℕ)) (order offsets row : List ℕ) (done k : ℕ) (ones others : List (List Bar)) (bars : List Bar) → IsOrder rooms promise order → slice_get order done ≡ Some k →
    AreEarlier rooms promise (IsPair conflicts) rows → slice_get rows k ≡ Some row → CoverSide rooms order done offsets one ones → CoverSide rooms order done offsets other others →
    CoverTaken rooms offsets row ones others (get_or one k []) (get_or other k []) bars → AreTaken rooms promise (AreKeptApart conflicts one other) offsets k bars
groups_taken rooms promise conflicts one other rows order offsets row done k ones others bars o here earlier at on_one on_other c = record {
  taken = λ byte h. ⊎_elim
      (λ f. let l = earlier.listed k f.by row at f.is_listed in record { by = f.by; is_field = l.0; is_before = l.1.0; in_conflict = inl l.1.1; is_its = f.is_its })
      (λ i. ⊎_elim
      (λ (g : IsInGroups others (get_or one k []) byte). let f = on_other.of_side g.group byte g.is_covered in
      record {
        by = f.by;
        is_field = o.inside f.at f.by f.is_there;
        is_before = order_tells rooms promise order f.at done f.by k o f.is_there here f.is_done;
        in_conflict = inr (inr (record { group = g.group; is_one = g.is_listed; is_other = f.is_on }));
        is_its = f.is_its;
      })
      (λ (g : IsInGroups ones (get_or other k []) byte). let f = on_one.of_side g.group byte g.is_covered in
      record {
        by = f.by;
        is_field = o.inside f.at f.by f.is_there;
        is_before = order_tells rooms promise order f.at done f.by k o f.is_there here f.is_done;
        in_conflict = inr (inl (record { group = g.group; is_one = f.is_on; is_other = g.is_listed }));
        is_its = f.is_its;
      })
      i)
      (c.told byte h);
  covered = λ byte t. let found = o.has_each t.by t.is_field in
      ⊎_elim
      (λ pair. c.has_fields byte (record { by = t.by; is_listed = earlier.lists k t.by row at t.is_field t.is_before pair; is_its = t.is_its }))
      (λ opposed. ⊎_elim
      (λ (w : AreOpposed one other t.by k). c.has_ones byte (record {
        group = w.group;
        is_listed = w.is_other;
        is_covered = on_one.covered w.group byte
            (record { at = found.0; by = t.by; is_done = o.rises found.0 done t.by k found.1 here t.is_before; is_there = found.1; is_on = w.is_one; is_its = t.is_its });
      }))
      (λ (w : AreOpposed one other k t.by). c.has_others byte (record {
        group = w.group;
        is_listed = w.is_one;
        is_covered = on_other.covered w.group byte
            (record { at = found.0; by = t.by; is_done = o.rises found.0 done t.by k found.1 here t.is_before; is_there = found.1; is_on = w.is_other; is_its = t.is_its });
      }))
      opposed)
      t.in_conflict;
}

-- ---- with the names that calls give things

pub taken_here : {X Y : Type 0} (rooms : List Room) (promise : Option ℕ) (conflicts : List (ℕ × ℕ)) (one other : List (List ℕ)) (order offsets offsets2 : List ℕ) (done k : ℕ) (rows rows2 : List Y) (row_in : Y → List ℕ) (row : List ℕ) (ones ones2 others others2 : List X)
    (bars_in : X → List Bar) (on_one on_other : List ℕ) (bars bars2 : List Bar) → IsOrder rooms promise order → slice_get order done ≡ Some k → AreEarlier rooms promise (IsPair conflicts) (map row_in rows) → rows2 ≡ rows → slice_get (map row_in rows2) k ≡ Some row →
    CoverSide rooms order done offsets one (map bars_in ones) → CoverSide rooms order done offsets other (map bars_in others) → offsets2 ≡ offsets → ones2 ≡ ones → others2 ≡ others → on_one ≡ get_or one k [] → on_other ≡ get_or other k [] →
    CoverTaken rooms offsets2 row (map bars_in ones2) (map bars_in others2) on_one on_other bars → bars2 ≡ bars → AreTaken rooms promise (AreKeptApart conflicts one other) offsets k bars2
taken_here {X = X} {Y = Y} rooms promise conflicts one other order offsets offsets2 done k rows rows2 row_in row ones ones2 others others2 bars_in on_one on_other bars bars2 o here earlier same_rows at cover_one cover_other same_offsets same_ones same_others is_one is_other c same =
    subst (AreTaken rooms promise (AreKeptApart conflicts one other) offsets k) (sym same)
    (groups_taken rooms promise conflicts one other (map row_in rows) order offsets row done k (map bars_in ones) (map bars_in others) bars o here earlier (ap (λ (l : List Y). slice_get (map row_in l) k) (sym same_rows) ∙ at) cover_one cover_other
    (subst (λ (l : List ℕ). CoverTaken rooms offsets row (map bars_in ones) (map bars_in others) (get_or one k []) l bars) is_other
    (subst (λ (l : List ℕ). CoverTaken rooms offsets row (map bars_in ones) (map bars_in others) l on_other bars) is_one
    (subst (λ (l : List X). CoverTaken rooms offsets row (map bars_in ones) (map bars_in l) on_one on_other bars) same_others
    (subst (λ (l : List X). CoverTaken rooms offsets row (map bars_in l) (map bars_in others2) on_one on_other bars) same_ones
    (subst (λ (l : List ℕ). CoverTaken rooms l row (map bars_in ones2) (map bars_in others2) on_one on_other bars) same_offsets c))))))

pub side_grown : (rooms : List Room) (promise : Option ℕ) (order offsets offsets2 : List ℕ) (rows : List (List ℕ)) (done k x size : ℕ) (groups : List ℕ) (side side2 : List (List Bar)) → IsOrder rooms promise order → slice_get order done ≡ Some k → length offsets ≡ length rooms →
    CoverSide rooms order done offsets rows side → groups ≡ get_or rows k [] → size ≡ size_at rooms k → offsets2 ≡ slice_set offsets k x → AreMoreAt side groups (record { start = x; end = x + size }) side2 → CoverSide rooms order (done + 1) offsets2 rows side2
side_grown rooms promise order offsets offsets2 rows done k x size groups side side2 o here len c are is_size is_set m =
    subst (λ (l : List ℕ). CoverSide rooms order (done + 1) l rows side2) (sym is_set)
    (side_more rooms promise order offsets rows done k x side side2 o here len c
    (subst (λ (n : ℕ). AreMoreAt side (get_or rows k []) (record { start = x; end = x + n }) side2) is_size
    (subst (λ (l : List ℕ). AreMoreAt side l (record { start = x; end = x + size }) side2) are m)))
