-- Cells of distances: whose they are, and that only results of getelementptrs of local slots have one.
use Rattle.std.proofs.Common.{◌≡◌, ◌⊎◌, inl, inr, ⊎_elim, ℕ, zero, suc, ◌+◌, ◌<◌, ◌≤◌, Bool, true, false, List, [], ◌∷◌, length, refl, sym, ap, ◌∙◌, subst, arith}
use Rattle.std.specs.Prelude.{Option, Some, None, map, replicate, slice_set, if◌then◌else◌}
use Rattle.pass_edges_proof.proofs.ir_laws.facts.Truth.{either}
use Rattle.pass_edges_proof.proofs.ir_laws.facts.Lists.{set_other}
use Rattle.pass_edges_proof.specs.pass_cells.Kept.{entry, flag_or_false, is_flagged}
use Rattle.pass_edges_proof.specs.pass_cells.Links.{cells_from, climbed, distance_cell, distance_name, link_name, links_after, links_from, marks_of, slot_by, slots_of, roots_of, unmarked, unmarked_by, with_climbs}

-- ---- slots

slot_there : (local : List Bool) (o : Option ℕ) (s : ℕ) → slot_by local o ≡ Some s → is_flagged local s ≡ true
slot_there local None s e = absurd (cc)
slot_there local (Some u) s e = on (is_flagged local u) refl e
  where
    on : (b : Bool) → is_flagged local u ≡ b → (if b then Some u else None) ≡ Some s → is_flagged local s ≡ true
    on true d k = let same : u ≡ s = cc in subst (λ (n : ℕ). is_flagged local n ≡ true) same d
    on false d k = absurd (cc)

slots_in : (local : List Bool) (roots : List (Option ℕ)) (v s : ℕ) → entry (map (slot_by local) roots) v ≡ Some s → is_flagged local s ≡ true
slots_in local [] v s e = absurd (cc)
slots_in local (x ∷ xs) zero s e = slot_there local x s e
slots_in local (x ∷ xs) (suc v) s e = slots_in local xs v s e

-- a slot of a name is flagged
pub slot_flagged : (local : List Bool) (bases : List (Option ℕ)) (v s : ℕ) → entry (slots_of local bases) v ≡ Some s → is_flagged local s ≡ true
slot_flagged local bases v s e = slots_in local (roots_of bases) v s e

-- ---- marks

-- a name with a slot
abbrev pub HasSlot : List (Option ℕ) → ℕ → Type 0
HasSlot slots v = (s : ℕ) × (entry slots v ≡ Some s)

module _ (bases slots : List (Option ℕ)) where
  abbrev AreMarked : List Bool → Type 0
  AreMarked marks = (v : ℕ) → is_flagged marks v ≡ true → HasSlot slots v

  abbrev IsNextMark : Option ℕ → Type 0
  IsNextMark o = (v : ℕ) → o ≡ Some v → HasSlot slots v

  unmarked_has : (marks : List Bool) (o : Option ℕ) → IsNextMark (unmarked slots marks o)
  unmarked_has marks None v e = absurd (cc)
  unmarked_has marks (Some u) v e = on (entry slots u) refl (is_flagged marks u) e
    where
      on : (o : Option ℕ) → entry slots u ≡ o → (b : Bool) → unmarked_by o b u ≡ Some v → HasSlot slots v
      on None d b k = absurd (cc)
      on (Some s) d true k = absurd (cc)
      on (Some s) d false k = let same : u ≡ v = cc in (s, ap (entry slots) (sym same) ∙ d)

  flag_set : (marks : List Bool) (u v : ℕ) → is_flagged (slice_set marks u true) v ≡ true → (u ≡ v) ⊎ (is_flagged marks v ≡ true)
  flag_set marks u v e = ⊎_elim (λ same. inl same) (λ ne. inr (sym (ap flag_or_false (set_other marks u v true ne)) ∙ e)) (either u v)

  climbed_marked : (turns : ℕ) (marks : List Bool) (at : Option ℕ) → AreMarked marks → IsNextMark at → AreMarked (climbed bases slots turns marks at)
  climbed_marked zero marks at h next = h
  climbed_marked (suc n) marks None h next = h
  climbed_marked (suc n) marks (Some u) h next =
      climbed_marked n (slice_set marks u true) (unmarked slots (slice_set marks u true) (entry bases u))
      (λ v e. ⊎_elim (λ same. next v (ap (λ (k : ℕ). Some k) same)) (λ old. h v old) (flag_set marks u v e))
      (unmarked_has (slice_set marks u true) (entry bases u))

  climbs_marked : (turns : ℕ) (marks : List Bool) (vs : List ℕ) → AreMarked marks → AreMarked (with_climbs bases slots turns marks vs)
  climbs_marked turns marks [] h = h
  climbs_marked turns marks (v ∷ vs) h = climbs_marked turns (climbed bases slots turns marks (unmarked slots marks (Some v))) vs (climbed_marked turns marks (unmarked slots marks (Some v)) h (unmarked_has marks (Some v)))

  none_marked : (n : ℕ) → AreMarked (replicate n false)
  none_marked n v e = absurd (on n v e)
    where
      on : (n v : ℕ) → is_flagged (replicate n false) v ≡ true → ⊥
      on zero v e = absurd (cc)
      on (suc n) zero e = absurd (cc)
      on (suc n) (suc v) e = on n v e

  -- a name that is marked has a slot
  pub marks_have : (values : List ℕ) (v : ℕ) → is_flagged (marks_of bases slots values) v ≡ true → HasSlot slots v
  marks_have values = climbs_marked (length bases) (replicate (length bases) false) values (none_marked (length bases))

-- ---- cells

-- the cell of a marked name: that of the distance of a value with a place, or that of one of so many links
pub data IsDistanceCell (first count links : ℕ) : Option ℕ → ℕ → Type 0 where
  OfValue : (at : ℕ) → IsDistanceCell first count links (Some at) (distance_name first count at)
  OfLink : (i : ℕ) → i < links → IsDistanceCell first count links None (link_name first count i)

pub record HasDistance (first count links : ℕ) (places : List (Option ℕ)) (marks : List Bool) (v at c : ℕ) : Type 0 where
  pub marked : is_flagged marks at ≡ true
  pub cell : IsDistanceCell first count links (entry places v) c

after_links : (links : ℕ) (b : Bool) (o : Option ℕ) → links ≤ links_after links b o
after_links links false o = omega arith
after_links links true None = omega arith
after_links links true (Some k) = omega arith

links_grow : (places : List (Option ℕ)) (v links : ℕ) (ms : List Bool) → links ≤ links_from places v links ms
links_grow places v links [] = omega arith
links_grow places v links (m ∷ ms) =
    let here : links ≤ links_after links m (entry places v) = after_links links m (entry places v) in
    let rest : links_after links m (entry places v) ≤ links_from places (v + 1) (links_after links m (entry places v)) ms = links_grow places (v + 1) (links_after links m (entry places v)) ms in
    omega (arith, here, rest)

module _ (first count : ℕ) (places : List (Option ℕ)) where
  cell_here : (links all c : ℕ) (m : Bool) (o : Option ℕ) → links_after links m o ≤ all → distance_cell first count links m o ≡ Some c → (m ≡ true) × IsDistanceCell first count all o c
  cell_here links all c false o le e = absurd (cc)
  cell_here links all c true None le e = let same : link_name first count links ≡ c = cc in (refl, subst (IsDistanceCell first count all None) same (OfLink links (omega (arith, le))))
  cell_here links all c true (Some k) le e = let same : distance_name first count k ≡ c = cc in (refl, subst (IsDistanceCell first count all (Some k)) same (OfValue k))

  cells_there : (v links all : ℕ) (ms : List Bool) (at c : ℕ) → links_from places v links ms ≤ all → entry (cells_from first count places v links ms) at ≡ Some c → HasDistance first count all places ms (v + at) at c
  cells_there v links all [] at c le e = absurd (cc)
  cells_there v links all (m ∷ ms) zero c le e =
      let rest : links_after links m (entry places v) ≤ links_from places (v + 1) (links_after links m (entry places v)) ms = links_grow places (v + 1) (links_after links m (entry places v)) ms in
      let x = cell_here links all c m (entry places v) (omega (arith, rest, le)) e in
      let same : v ≡ v + 0 = omega arith in
      record { marked = x.0; cell = subst (λ (n : ℕ). IsDistanceCell first count all (entry places n) c) same x.1 }
  cells_there v links all (m ∷ ms) (suc at) c le e =
      let x = cells_there (v + 1) (links_after links m (entry places v)) all ms at c le e in
      let same : v + 1 + at ≡ v + suc at = omega arith in
      record { marked = x.marked; cell = subst (λ (n : ℕ). IsDistanceCell first count all (entry places n) c) same x.cell }

  pub distance_there : (ms : List Bool) (v c : ℕ) → entry (cells_from first count places 0 0 ms) v ≡ Some c → HasDistance first count (links_from places 0 0 ms) places ms v v c
  distance_there ms v c e =
      let same : 0 + v ≡ v = omega arith in
      subst (λ (n : ℕ). HasDistance first count (links_from places 0 0 ms) places ms n v c) same (cells_there 0 0 (links_from places 0 0 ms) ms v c (omega arith) e)
