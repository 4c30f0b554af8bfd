-- A kept value with a slot has a cell for its distance.
use Rattle.std.proofs.Common.{◌≡◌, inl, inr, ⊎_elim, ℕ, zero, suc, ◌+◌, ◌<◌, ◌≤◌, Bool, true, false, List, [], ◌∷◌, Option, Some, None, length, replicate, refl, sym, ap, ◌∙◌, subst, arith}
use Rattle.std.specs.Prelude.{slice_set}
use Rattle.compiler.specs.flow_solver.Paths.{IsListed}
use Rattle.compiler.proofs.ir_laws.facts.Lists.{flags_length, set_here, set_length, set_other}
use Rattle.compiler.proofs.ir_laws.facts.Truth.{either}
use Rattle.compiler.specs.pass_cells.Kept.{entry, flag_or_false, is_flagged}
use Rattle.compiler.specs.pass_cells.Links.{cells_from, climbed, distance_cell, distance_name, link_name, links_after, marks_of, unmarked, unmarked_by, with_climbs}

-- ---- flags

within : (marks : List Bool) (v : ℕ) → is_flagged marks v ≡ true → v < length marks
within [] v e = absurd (cc)
within (m ∷ ms) zero e = omega arith
within (m ∷ ms) (suc v) e = let lt = within ms v e in omega (arith, lt)

flag_now : (marks : List Bool) (v : ℕ) → v < length marks → is_flagged (slice_set marks v true) v ≡ true
flag_now marks v lt = ap flag_or_false (set_here marks v true lt)

flag_stays : (marks : List Bool) (u v : ℕ) → is_flagged marks v ≡ true → is_flagged (slice_set marks u true) v ≡ true
flag_stays marks u v e = ⊎_elim
    (λ same. ap (λ (n : ℕ). is_flagged (slice_set marks n true) v) same ∙ flag_now marks v (within marks v e))
    (λ ne. ap flag_or_false (set_other marks u v true ne) ∙ e) (either u v)

-- ---- climbs

module _ (bases slots : List (Option ℕ)) where
  climbed_stays : (n : ℕ) (marks : List Bool) (at : Option ℕ) (v : ℕ) → is_flagged marks v ≡ true
      → is_flagged (climbed bases slots n marks at) v ≡ true
  climbed_stays zero marks at v e = e
  climbed_stays (suc n) marks None v e = e
  climbed_stays (suc n) marks (Some u) v e =
      climbed_stays n (slice_set marks u true) (unmarked slots (slice_set marks u true) (entry bases u)) v
      (flag_stays marks u v e)

  climbed_long : (n : ℕ) (marks : List Bool) (at : Option ℕ) → length (climbed bases slots n marks at) ≡ length marks
  climbed_long zero marks at = refl
  climbed_long (suc n) marks None = refl
  climbed_long (suc n) marks (Some u) =
      climbed_long n (slice_set marks u true) (unmarked slots (slice_set marks u true) (entry bases u))
      ∙ set_length marks u true

  value_marked : (n : ℕ) (marks : List Bool) (v s : ℕ) → 1 ≤ n → entry slots v ≡ Some s → v < length marks
      → is_flagged (climbed bases slots n marks (unmarked slots marks (Some v))) v ≡ true
  value_marked zero marks v s some e lt = absurd (omega (arith, some))
  value_marked (suc n) marks v s some e lt = on (is_flagged marks v) refl
    where
      on : (b : Bool) → is_flagged marks v ≡ b
          → is_flagged (climbed bases slots (suc n) marks (unmarked_by (entry slots v) (is_flagged marks v) v)) v
          ≡ true
      on true d =
          climbed_stays (suc n) marks (unmarked_by (entry slots v) (is_flagged marks v) v) v d
      on false d =
          subst (λ (o : Option ℕ). is_flagged (climbed bases slots (suc n) marks o) v ≡ true)
          (sym (ap (λ (o : Option ℕ). unmarked_by o (is_flagged marks v) v) e
          ∙ ap (λ (b : Bool). unmarked_by (Some s) b v) d))
          (climbed_stays n (slice_set marks v true) (unmarked slots (slice_set marks v true) (entry bases v)) v
          (flag_now marks v lt))

  climbs_stay : (n : ℕ) (marks : List Bool) (vs : List ℕ) (v : ℕ) → is_flagged marks v ≡ true
      → is_flagged (with_climbs bases slots n marks vs) v ≡ true
  climbs_stay n marks [] v e = e
  climbs_stay n marks (u ∷ vs) v e =
      climbs_stay n (climbed bases slots n marks (unmarked slots marks (Some u))) vs v
      (climbed_stays n marks (unmarked slots marks (Some u)) v e)

  values_marked : (n : ℕ) (marks : List Bool) (vs : List ℕ) (v s : ℕ) → 1 ≤ n → entry slots v ≡ Some s
      → v < length marks → IsListed v vs → is_flagged (with_climbs bases slots n marks vs) v ≡ true
  values_marked n marks [] v s some e lt l = absurd l
  values_marked n marks (u ∷ vs) v s some e lt (inl same) =
      climbs_stay n (climbed bases slots n marks (unmarked slots marks (Some u))) vs v
      (subst (λ (w : ℕ). is_flagged (climbed bases slots n marks (unmarked slots marks (Some w))) v ≡ true) same
      (value_marked n marks v s some e lt))
  values_marked n marks (u ∷ vs) v s some e lt (inr l) =
      let long = climbed_long n marks (unmarked slots marks (Some u)) in
      values_marked n (climbed bases slots n marks (unmarked slots marks (Some u))) vs v s some e
      (omega (arith, lt, long)) l

  kept_marked : (values : List ℕ) (v s : ℕ) → entry slots v ≡ Some s → v < length bases → IsListed v values
      → is_flagged (marks_of bases slots values) v ≡ true
  kept_marked values v s e lt l =
      let long = flags_length (length bases) in
      values_marked (length bases) (replicate (length bases) false) values v s (omega (arith, lt)) e
      (omega (arith, lt, long)) l

-- ---- their cells

module _ (first count : ℕ) (places : List (Option ℕ)) where
  one_cell : (links : ℕ) (m : Bool) (o : Option ℕ) → m ≡ true
      → (c : ℕ) × (distance_cell first count links m o ≡ Some c)
  one_cell links false o e = absurd (cc)
  one_cell links true None e = (link_name first count links, refl)
  one_cell links true (Some k) e = (distance_name first count k, refl)

  cell_there : (v links : ℕ) (ms : List Bool) (at : ℕ) → is_flagged ms at ≡ true
      → (c : ℕ) × (entry (cells_from first count places v links ms) at ≡ Some c)
  cell_there v links [] at e = absurd (cc)
  cell_there v links (m ∷ ms) zero e = one_cell links m (entry places v) e
  cell_there v links (m ∷ ms) (suc at) e = cell_there (v + 1) (links_after links m (entry places v)) ms at e

  pub value_cell : (bases slots : List (Option ℕ)) (values : List ℕ) (v s : ℕ) → entry slots v ≡ Some s
      → v < length bases → IsListed v values
      → (c : ℕ) × (entry (cells_from first count places 0 0 (marks_of bases slots values)) v ≡ Some c)
  value_cell bases slots values v s e lt l =
      cell_there 0 0 (marks_of bases slots values) v (kept_marked bases slots values v s e lt l)
