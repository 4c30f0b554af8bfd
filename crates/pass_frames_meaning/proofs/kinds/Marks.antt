-- Where the distance of a name is kept, that of its base is too, unless the base is the slot: climbing stops at what is
-- marked alone.
use Rattle.std.proofs.Common.{◌≡◌, ◌⊎◌, inl, inr, ⊎_elim, ℕ, zero, suc, ◌+◌, ◌<◌, ◌≤◌, Bool, true, false, List, [], ◌∷◌, length, replicate, Option, Some, None, refl, sym, ap, ◌∙◌, subst, arith}
use Rattle.std.specs.Prelude.{slice_set}
use Rattle.pass_frames_proof.proofs.ir_laws.facts.Lists.{set_length}
use Rattle.pass_frames_proof.specs.pass_cells.Kept.{entry, is_flagged}
use Rattle.pass_frames_proof.specs.pass_cells.Links.{cells_from, climbed, distance_cell, links_after, marks_of, unmarked, unmarked_by, with_climbs}

-- ---- flags

-- how many aren't set
blanks : List Bool → ℕ
blanks [] = 0
blanks (true ∷ bs) = blanks bs
blanks (false ∷ bs) = suc (blanks bs)

blanks_few : (bs : List Bool) → blanks bs ≤ length bs
unfolding blanks
blanks_few [] = omega arith
blanks_few (true ∷ bs) = let few = blanks_few bs in omega (arith, few)
blanks_few (false ∷ bs) = let few = blanks_few bs in omega (arith, few)

blanks_less : (bs : List Bool) (u : ℕ) → u < length bs → is_flagged bs u ≡ false
    → suc (blanks (slice_set bs u true)) ≡ blanks bs
unfolding blanks
blanks_less [] u lt e = absurd (omega (arith, lt))
blanks_less (true ∷ bs) zero lt e = absurd (cc)
blanks_less (false ∷ bs) zero lt e = refl
blanks_less (true ∷ bs) (suc u) lt e = blanks_less bs u (omega (arith, lt)) e
blanks_less (false ∷ bs) (suc u) lt e = ap suc (blanks_less bs u (omega (arith, lt)) e)

set_true : (bs : List Bool) (u : ℕ) → u < length bs → is_flagged (slice_set bs u true) u ≡ true
set_true [] u lt = absurd (omega (arith, lt))
set_true (b ∷ bs) zero lt = refl
set_true (b ∷ bs) (suc u) lt = set_true bs u (omega (arith, lt))

-- what is set stays so
set_more : (bs : List Bool) (u v : ℕ) → is_flagged bs v ≡ true → is_flagged (slice_set bs u true) v ≡ true
set_more [] u v e = e
set_more (b ∷ bs) zero zero e = refl
set_more (b ∷ bs) zero (suc v) e = e
set_more (b ∷ bs) (suc u) zero e = e
set_more (b ∷ bs) (suc u) (suc v) e = set_more bs u v e

set_back : (bs : List Bool) (u v : ℕ) → is_flagged (slice_set bs u true) v ≡ true
    → (v ≡ u) ⊎ (is_flagged bs v ≡ true)
set_back [] u v e = inr e
set_back (b ∷ bs) zero zero e = inl refl
set_back (b ∷ bs) zero (suc v) e = inr e
set_back (b ∷ bs) (suc u) zero e = inr e
set_back (b ∷ bs) (suc u) (suc v) e = ⊎_elim (λ same. inl (ap suc same)) (λ old. inr old) (set_back bs u v e)

-- ---- climbs

module _ (bases slots : List (Option ℕ)) (within : (u s : ℕ) → entry slots u ≡ Some s → u < length bases) where
  -- the base of what is marked is marked, if it has a slot, or it is marked next
  abbrev AreClosedBut : List Bool → Option ℕ → Type 0
  AreClosedBut marks next =
      (v u s : ℕ) → is_flagged marks v ≡ true → entry bases v ≡ Some u → entry slots u ≡ Some s
      → (is_flagged marks u ≡ true) ⊎ (next ≡ Some u)

  abbrev IsNext : List Bool → Option ℕ → Type 0
  IsNext marks next = (u : ℕ) → next ≡ Some u → (is_flagged marks u ≡ false) × (u < length bases)

  next_is : (marks : List Bool) (o : Option ℕ) → IsNext marks (unmarked slots marks o)
  next_is marks None u e = absurd (cc)
  next_is marks (Some w) u e = on (entry slots w) refl (is_flagged marks w) refl e
    where
      on : (o : Option ℕ) → entry slots w ≡ o → (b : Bool) → is_flagged marks w ≡ b → unmarked_by o b w ≡ Some u
          → (is_flagged marks u ≡ false) × (u < length bases)
      on None d b c h = absurd (cc)
      on (Some s) d true c h = absurd (cc)
      on (Some s) d false c h =
          let same : w ≡ u = cc in
          subst (λ (n : ℕ). (is_flagged marks n ≡ false) × (n < length bases)) same (c, within w s d)

  marked_next : (marks : List Bool) (u s : ℕ) → entry slots u ≡ Some s
      → (is_flagged marks u ≡ true) ⊎ (unmarked slots marks (Some u) ≡ Some u)
  marked_next marks u s e = on (is_flagged marks u) refl
    where
      on : (b : Bool) → is_flagged marks u ≡ b → (is_flagged marks u ≡ true) ⊎ (unmarked slots marks (Some u) ≡ Some u)
      on true d = inl d
      on false d = inr (λ j. unmarked_by (e j) (d j) u)

  closed_more : (marks : List Bool) (w : ℕ) → w < length marks → AreClosedBut marks (Some w)
      → AreClosedBut (slice_set marks w true) (unmarked slots (slice_set marks w true) (entry bases w))
  closed_more marks w lt closed v u s e base slot = on (set_back marks w v e)
    where
      by : (is_flagged marks u ≡ true) ⊎ (Some w ≡ Some u)
          → (is_flagged (slice_set marks w true) u ≡ true)
          ⊎ (unmarked slots (slice_set marks w true) (entry bases w) ≡ Some u)
      by (inl old) = inl (set_more marks w u old)
      by (inr same) =
          let one : w ≡ u = cc in
          inl (subst (λ (n : ℕ). is_flagged (slice_set marks w true) n ≡ true) one (set_true marks w lt))

      on : (v ≡ w) ⊎ (is_flagged marks v ≡ true)
          → (is_flagged (slice_set marks w true) u ≡ true)
          ⊎ (unmarked slots (slice_set marks w true) (entry bases w) ≡ Some u)
      on (inl same) =
          subst (λ (o : Option ℕ). (is_flagged (slice_set marks w true) u ≡ true)
          ⊎ (unmarked slots (slice_set marks w true) o ≡ Some u)) (sym (ap (entry bases) (sym same) ∙ base))
          (marked_next (slice_set marks w true) u s slot)
      on (inr old) = by (closed v u s old base slot)

  abbrev AreClosed : List Bool → Type 0
  AreClosed marks = (v u s : ℕ) → is_flagged marks v ≡ true → entry bases v ≡ Some u → entry slots u ≡ Some s
      → is_flagged marks u ≡ true

  climbed_closed : (turns : ℕ) (marks : List Bool) (next : Option ℕ) → length marks ≡ length bases
      → blanks marks ≤ turns → IsNext marks next → AreClosedBut marks next
      → AreClosed (climbed bases slots turns marks next)
      × (length (climbed bases slots turns marks next) ≡ length bases)
  climbed_closed zero marks None long few is closed = (
    λ v u s e base slot. ⊎_elim (λ h. h) (λ h. absurd (no u h)) (closed v u s e base slot),
    long,
  )
    where
      no : (u : ℕ) → ◌≡◌ {A = Option ℕ} None (Some u) → ⊥
      no u e = cc
  climbed_closed zero marks (Some w) long few is closed =
      let z = is w refl in
      let lt : w < length marks = let a = z.1 in omega (arith, a, long) in
      let less = blanks_less marks w lt z.0 in
      absurd (omega (arith, few, less))
  climbed_closed (suc n) marks None long few is closed = (
    λ v u s e base slot. ⊎_elim (λ h. h) (λ h. absurd (no u h)) (closed v u s e base slot),
    long,
  )
    where
      no : (u : ℕ) → ◌≡◌ {A = Option ℕ} None (Some u) → ⊥
      no u e = cc
  climbed_closed (suc n) marks (Some w) long few is closed =
      let z = is w refl in
      let lt : w < length marks = let a = z.1 in omega (arith, a, long) in
      let less = blanks_less marks w lt z.0 in
      climbed_closed n (slice_set marks w true) (unmarked slots (slice_set marks w true) (entry bases w))
      (set_length marks w true ∙ long) (omega (arith, few, less)) (next_is (slice_set marks w true) (entry bases w))
      (closed_more marks w lt closed)

  climbs_closed : (marks : List Bool) (vs : List ℕ) → length marks ≡ length bases → AreClosed marks
      → AreClosed (with_climbs bases slots (length bases) marks vs)
  climbs_closed marks [] long closed = closed
  climbs_closed marks (v ∷ vs) long closed =
      let few = blanks_few marks in
      let z = climbed_closed (length bases) marks (unmarked slots marks (Some v)) long (omega (arith, few, long))
      (next_is marks (Some v)) (λ w u s e base slot. inl (closed w u s e base slot)) in
      climbs_closed (climbed bases slots (length bases) marks (unmarked slots marks (Some v))) vs z.1 z.0

  none_set : (n v : ℕ) → is_flagged (replicate n false) v ≡ true → ⊥
  none_set zero v e = absurd (cc)
  none_set (suc n) zero e = absurd (cc)
  none_set (suc n) (suc v) e = none_set n v e

  none_long : (n : ℕ) → length (replicate {A = Bool} n false) ≡ n
  none_long zero = refl
  none_long (suc n) = ap suc (none_long n)

  -- the base of a name whose distance is kept is one too, if it has a slot
  pub marks_closed : (values : List ℕ) (v u s : ℕ) → is_flagged (marks_of bases slots values) v ≡ true
      → entry bases v ≡ Some u → entry slots u ≡ Some s → is_flagged (marks_of bases slots values) u ≡ true
  marks_closed values =
      climbs_closed (replicate (length bases) false) values (none_long (length bases))
      (λ v u s e base slot. absurd (none_set (length bases) v e))

-- ---- cells

module _ (first count : ℕ) (places : List (Option ℕ)) where
  cell_here : (links : ℕ) (o : Option ℕ) → (c : ℕ) × (distance_cell first count links true o ≡ Some c)
  cell_here links None = (_, refl)
  cell_here links (Some k) = (_, refl)

  -- what is marked has a cell
  pub cell_told : (v links : ℕ) (ms : List Bool) (at : ℕ) → is_flagged ms at ≡ true
      → (c : ℕ) × (entry (cells_from first count places v links ms) at ≡ Some c)
  cell_told v links [] at e = absurd (cc)
  cell_told v links (true ∷ ms) zero e = cell_here links (entry places v)
  cell_told v links (false ∷ ms) zero e = absurd (cc)
  cell_told v links (m ∷ ms) (suc at) e = cell_told (v + 1) (links_after links m (entry places v)) ms at e
