-- Bars that cover fields.
use Rattle.std.proofs.Common.{◌≡◌, ◌≢◌, ℕ, ◌+◌, ◌<◌, ◌≤◌, ◌⊎◌, List, [], ◌∷◌, ◌++◌, length, take, get_or, Option, Some, refl, sym, ap, ◌∙◌, subst, ⊎_elim, inl, inr, arith}
use Rattle.std.specs.Prelude.{slice_get, slice_set, slice_index}
use Rattle.std.specs.List.Sorted.{IsNonDecreasingBy, IsPermutation}
use Rattle.std.proofs.lemmas.Bool.{cases_lt}
use Rattle.std.proofs.lemmas.List.{take_all, take_more}
use Rattle.std.proofs.lemmas.List.Elements.{Contains-append_left, Contains-push, Contains-push_cases}
use Rattle.std.proofs.lemmas.List.Sorted.{All-permutation, IsPermutation-sym}
use Rattle.std.proofs.lemmas.Option.{same_Some, slice_get-get_or}
use Rattle.frame_placing.specs.Bars.{IsCovered, IsMore}
use Rattle.frame_placing.specs.Placed.{Always, IsByteOf}
use Rattle.frame_placing.specs.Rooms.{size_at}
use Rattle.frame_placing.specs.Steps.{AreEarlier, AreTaken, CoverFields, CoverFirst, IsOfOne, IsOrder}
use Rattle.frame_placing.specs.declared.bars.Bar.{Bar}
use Rattle.frame_placing.specs.declared.room.Room.{Room}
use Rattle.frame_placing.proofs.Covers.{bars_from, covered_cases, covered_front, covered_last, covered_permuted, no_bars, none_covered, push_cases}
use Rattle.frame_placing.proofs.Orders.{order_tells}
use Rattle.frame_placing.proofs.Stepping.{index_kept, index_set}

-- ---- the bars of a list of fields

pub record IsGathered (rooms : List Room) (offsets fields : List ℕ) (bars : List Bar) : Type 0 where
  pub are_filled : (a : ℕ) (x : Bar) → slice_get bars a ≡ Some x → x.start < x.end
  pub of_one : (byte : ℕ) → IsCovered bars byte → IsOfOne rooms offsets fields byte
  pub covered : (byte : ℕ) → IsOfOne rooms offsets fields byte → IsCovered bars byte

pub gather_begins : (rooms : List Room) (offsets : List ℕ) → IsGathered rooms offsets [] []
gather_begins rooms offsets = record {
  are_filled = λ a x e. absurd (cc);
  of_one = λ byte c. absurd (none_covered byte c);
  covered = λ byte h. let lt = h.is_listed.1 in absurd (omega (arith, lt));
}

of_more : (rooms : List Room) (offsets fields : List ℕ) (k byte : ℕ) → IsOfOne rooms offsets fields byte → IsOfOne rooms offsets (fields ++ k ∷ []) byte
of_more rooms offsets fields k byte h = record { by = h.by; is_listed = Contains-append_left fields (k ∷ []) h.by h.is_listed; is_its = h.is_its }

of_last : (rooms : List Room) (offsets fields : List ℕ) (k byte : ℕ) → IsByteOf byte (slice_index offsets k) (size_at rooms k) → IsOfOne rooms offsets (fields ++ k ∷ []) byte
of_last rooms offsets fields k byte h = record { by = k; is_listed = Contains-push fields k; is_its = h }

of_cases : (rooms : List Room) (offsets fields : List ℕ) (k byte : ℕ) → IsOfOne rooms offsets (fields ++ k ∷ []) byte → IsOfOne rooms offsets fields byte ⊎ IsByteOf byte (slice_index offsets k) (size_at rooms k)
of_cases rooms offsets fields k byte h =
    ⊎_elim
    (λ old. inl (record { by = h.by; is_listed = old; is_its = h.is_its }))
    (λ same. inr (subst (λ (j : ℕ). IsByteOf byte (slice_index offsets j) (size_at rooms j)) (sym same) h.is_its))
    (Contains-push_cases fields k h.by h.is_listed)

gather_none : (rooms : List Room) (offsets fields : List ℕ) (k : ℕ) (bars : List Bar) → size_at rooms k ≤ 0 → IsGathered rooms offsets fields bars → IsGathered rooms offsets (fields ++ k ∷ []) bars
gather_none rooms offsets fields k bars none h = record {
  are_filled = h.are_filled;
  of_one = λ byte c. of_more rooms offsets fields k byte (h.of_one byte c);
  covered = λ byte o. ⊎_elim (λ old. h.covered byte old) (λ i. let a = i.0 in let b = i.1 in absurd (omega (arith, a, b, none))) (of_cases rooms offsets fields k byte o);
}

gather_one : (rooms : List Room) (offsets fields : List ℕ) (k : ℕ) (bars : List Bar) (one : Bar) → 0 < size_at rooms k → one.start ≡ slice_index offsets k → one.end ≡ slice_index offsets k + size_at rooms k →
    IsGathered rooms offsets fields bars → IsGathered rooms offsets (fields ++ k ∷ []) (bars ++ one ∷ [])
gather_one rooms offsets fields k bars one some start end h = record {
  are_filled = λ a x e. ⊎_elim (λ there. h.are_filled a x there) (λ p. subst (λ (b : Bar). b.start < b.end) (sym p.1) (omega (arith, start, end, some))) (push_cases bars one a x e);
  of_one = λ byte c. ⊎_elim
      (λ old. of_more rooms offsets fields k byte (h.of_one byte old))
      (λ i. let a = i.0 in let b = i.1 in of_last rooms offsets fields k byte (omega (arith, a, start), omega (arith, b, end)))
      (covered_cases bars one byte c);
  covered = λ byte o. ⊎_elim
      (λ old. covered_front bars one byte (h.covered byte old))
      (λ i. let a = i.0 in let b = i.1 in covered_last bars one byte (omega (arith, a, start), omega (arith, b, end)))
      (of_cases rooms offsets fields k byte o);
}

pub gather_skip : (rooms : List Room) (offsets fields : List ℕ) (i : ℕ) (bars : List Bar) → i < length fields → size_at rooms (get_or fields i 0) ≤ 0 → IsGathered rooms offsets (take i fields) bars → IsGathered rooms offsets (take (i + 1) fields) bars
gather_skip rooms offsets fields i bars lt none h =
    subst (λ (l : List ℕ). IsGathered rooms offsets l bars) (sym (take_more fields i 0 lt)) (gather_none rooms offsets (take i fields) (get_or fields i 0) bars none h)

pub gather_push : (rooms : List Room) (offsets fields : List ℕ) (i size : ℕ) (bars bars2 : List Bar) → i < length fields → size ≡ size_at rooms (get_or fields i 0) → 0 < size →
    bars2 ≡ bars ++ (record { start = slice_index offsets (get_or fields i 0); end = slice_index offsets (get_or fields i 0) + size }) ∷ [] →
    IsGathered rooms offsets (take i fields) bars → IsGathered rooms offsets (take (i + 1) fields) bars2
gather_push rooms offsets fields i size bars bars2 lt is some grown h =
    subst (IsGathered rooms offsets (take (i + 1) fields)) (sym grown)
    (subst (λ (l : List ℕ). IsGathered rooms offsets l (bars ++ (record { start = slice_index offsets (get_or fields i 0); end = slice_index offsets (get_or fields i 0) + size }) ∷ [])) (sym (take_more fields i 0 lt))
    (gather_one rooms offsets (take i fields) (get_or fields i 0) bars (record { start = slice_index offsets (get_or fields i 0); end = slice_index offsets (get_or fields i 0) + size })
    (omega (arith, is, some)) refl (ap (λ (n : ℕ). slice_index offsets (get_or fields i 0) + n) is) h))

pub gathered : (rooms : List Room) (offsets fields : List ℕ) (i : ℕ) (bars sorted : List Bar) → length fields ≤ i → IsGathered rooms offsets (take i fields) bars → IsPermutation bars sorted → IsNonDecreasingBy (λ (x : Bar). x.start) sorted →
    CoverFields rooms offsets fields sorted
gathered rooms offsets fields i bars sorted all g moved up = record {
  are_bars = bars_from sorted up (All-permutation (λ (x : Bar). x.start < x.end) bars sorted moved (λ k d lt. h.are_filled k (get_or bars k d) (slice_get-get_or bars k d lt)));
  of_one = λ byte c. h.of_one byte (covered_permuted sorted bars byte (IsPermutation-sym bars sorted moved) c);
  covered = λ byte o. covered_permuted bars sorted byte moved (h.covered byte o);
}
  where
    h : IsGathered rooms offsets fields bars
    h = subst (λ (l : List ℕ). IsGathered rooms offsets l bars) (take_all i fields all) g

-- ---- what is taken

pub row_taken : (rooms : List Room) (promise : Option ℕ) (Conflict : ℕ → ℕ → Type 0) (rows : List (List ℕ)) (offsets row : List ℕ) (k : ℕ) (bars : List Bar) → AreEarlier rooms promise Conflict rows → slice_get rows k ≡ Some row →
    CoverFields rooms offsets row bars → AreTaken rooms promise Conflict offsets k bars
row_taken rooms promise Conflict rows offsets row k bars e at c = record {
  taken = λ byte h. let one = c.of_one byte h in let l = e.listed k one.by row at one.is_listed in record { by = one.by; is_field = l.0; is_before = l.1.0; in_conflict = l.1.1; is_its = one.is_its };
  covered = λ byte t. c.covered byte (record { by = t.by; is_listed = e.lists k t.by row at t.is_field t.is_before t.in_conflict; is_its = t.is_its });
}

pub first_taken : (rooms : List Room) (promise : Option ℕ) (order offsets : List ℕ) (done k : ℕ) (bars : List Bar) → IsOrder rooms promise order → slice_get order done ≡ Some k → CoverFirst rooms order done offsets bars →
    AreTaken rooms promise Always offsets k bars
first_taken rooms promise order offsets done k bars o here c = record {
  taken = λ byte h. let f = c.of_first byte h in
      record { by = f.by; is_field = o.inside f.at f.by f.is_there; is_before = order_tells rooms promise order f.at done f.by k o f.is_there here f.is_done; in_conflict = tt; is_its = f.is_its };
  covered = λ byte t. let found = o.has_each t.by t.is_field in
      c.covered byte (record { at = found.0; by = t.by; is_done = o.rises found.0 done t.by k found.1 here t.is_before; is_there = found.1; is_its = t.is_its });
}

pub cover_begins : (rooms : List Room) (order offsets : List ℕ) → CoverFirst rooms order 0 offsets []
cover_begins rooms order offsets = record {
  are_bars = no_bars;
  of_first = λ byte c. absurd (none_covered byte c);
  covered = λ byte f. let lt = f.is_done in absurd (omega (arith, lt));
}

pub cover_more : (rooms : List Room) (promise : Option ℕ) (order offsets : List ℕ) (done k x : ℕ) (bars bars2 : List Bar) → IsOrder rooms promise order → slice_get order done ≡ Some k → length offsets ≡ length rooms →
    CoverFirst rooms order done offsets bars → IsMore bars (record { start = x; end = x + size_at rooms k }) bars2 → CoverFirst rooms order (done + 1) (slice_set offsets k x) bars2
cover_more rooms promise order offsets done k x bars bars2 o here len c m = record {
  are_bars = m.are_bars;
  of_first = λ byte h. ⊎_elim
      (λ old. let f = c.of_first byte old in
      record { at = f.at; by = f.by; is_done = (let lt = f.is_done in omega (arith, lt)); is_there = f.is_there; is_its = subst (λ (y : ℕ). IsByteOf byte y (size_at rooms f.by)) (kept f.at f.by f.is_done f.is_there) f.is_its })
      (λ i. record { at = done; by = k; is_done = omega arith; is_there = here; is_its = subst (λ (y : ℕ). IsByteOf byte y (size_at rooms k)) (sym now) i })
      (m.told byte h);
  covered = λ byte f. ⊎_elim
      (λ (lt : f.at < done). m.has_others byte (c.covered byte
      (record { at = f.at; by = f.by; is_done = lt; is_there = f.is_there; is_its = subst (λ (y : ℕ). IsByteOf byte y (size_at rooms f.by)) (sym (kept f.at f.by lt f.is_there)) f.is_its })))
      (λ (ge : done ≤ f.at). let lt = f.is_done in let same : f.at ≡ done = omega (arith, lt, ge) in let one : f.by ≡ k = same_Some f.by k (sym f.is_there ∙ (ap (slice_get order) same ∙ here)) in
      m.has_more byte (subst (λ (y : ℕ). IsByteOf byte y (size_at rooms k)) now (subst (λ (j : ℕ). IsByteOf byte (slice_index (slice_set offsets k x) j) (size_at rooms j)) one f.is_its)))
      (cases_lt f.at done);
}
  where
    differs : (a j : ℕ) → a < done → slice_get order a ≡ Some j → j ≢ k
    differs a j lt at same = let one = o.has_once a done k (at ∙ ap (λ (y : ℕ). Some y) same) here in omega (arith, one, lt)

    kept : (a j : ℕ) → a < done → slice_get order a ≡ Some j → slice_index offsets j ≡ slice_index (slice_set offsets k x) j
    kept a j lt at = index_kept offsets j k x (differs a j lt at)

    now : slice_index (slice_set offsets k x) k ≡ x
    now = index_set offsets k x (let lt = o.inside done k here in omega (arith, lt, len))
