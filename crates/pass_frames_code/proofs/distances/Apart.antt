-- No two distances have one cell.
use Rattle.std.proofs.Common.{◌≡◌, ℕ, zero, suc, ◌+◌, ◌<◌, ◌≤◌, Bool, true, false, List, [], ◌∷◌, refl, sym, ap, ◌∙◌, arith}
use Rattle.std.specs.Prelude.{None, Option, Some, slice_get, ◌≢◌}
use Rattle.pass_proofs.proofs.ir_laws.facts.Lists.{get_within}
use Rattle.pass_proofs.specs.pass_cells.Kept.{entry}
use Rattle.pass_proofs.specs.pass_cells.Links.{bases_of, cells_from, distance_cell, distance_name, link_name, links_after, marks_of, slots_of}
use Rattle.pass_frames_code.proofs.code.Names.{Count, F, First, Kept, keeping, local}
use Rattle.pass_frames_code.specs.Framings.{IsFraming}
use Rattle.pass_frames_code.specs.Places.{Framing, plan}
use Rattle.pass_frames_code.specs.Related.{root_of}
use Rattle.pass_proofs.proofs.cells.rules.Links.{IsDistanceCell, OfLink, OfValue, distance_there, marks_have}

module _ (first count : ℕ) (places : List (Option ℕ))
    (small : (v k : ℕ) → entry places v ≡ Some k → k < count) where
  abbrev table : ℕ → ℕ → List Bool → List (Option ℕ)
  table v links ms = cells_from first count places v links ms

  after : (links : ℕ) (b : Bool) (o : Option ℕ) → links ≤ links_after links b o
  after links false o = omega arith
  after links true None = omega arith
  after links true (Some k) = omega arith

  -- the cell of a link is none of those of links before
  above : (v links : ℕ) (ms : List Bool) (at c : ℕ) → entry (table v links ms) at ≡ Some c
      → link_name first count 0 ≤ c → link_name first count links ≤ c
  above v links [] at c e low = absurd (cc)
  above v links (m ∷ ms) zero c e low = here m (entry places v) refl e
    where
      here : (b : Bool) (o : Option ℕ) → entry places v ≡ o → distance_cell first count links b o ≡ Some c
          → link_name first count links ≤ c
      here false o d k = absurd (cc)
      here true None d k = let same : link_name first count links ≡ c = cc in omega (arith, same)
      here true (Some j) d k =
          let same : distance_name first count j ≡ c = cc in
          let lt : j < count = small v j d in
          absurd (omega (arith, same, lt, low))
  above v links (m ∷ ms) (suc at) c e low =
      let n : ℕ = links_after links m (entry places v) in
      let later : link_name first count n ≤ c = above (v + 1) n ms at c e low in
      let up : links ≤ n = after links m (entry places v) in
      omega (arith, later, up)

  apart : (v links : ℕ) (c : ℕ) → link_name first count 0 ≤ c → (b : Bool) (o : Option ℕ) → entry places v ≡ o
      → distance_cell first count links b o ≡ Some c → link_name first count (links_after links b o) ≤ c → ⊥
  apart v links c low false o d k le = absurd (cc)
  apart v links c low true None d k le = let same : link_name first count links ≡ c = cc in omega (arith, same, le)
  apart v links c low true (Some j) d k le =
      let same : distance_name first count j ≡ c = cc in
      let lt : j < count = small v j d in
      omega (arith, same, lt, low)

  -- two names that have the cell of a link are one
  once : (v links : ℕ) (ms : List Bool) (at bt c : ℕ) → entry (table v links ms) at ≡ Some c
      → entry (table v links ms) bt ≡ Some c → link_name first count 0 ≤ c → at ≡ bt
  once v links [] at bt c e f low = absurd (cc)
  once v links (m ∷ ms) zero zero c e f low = refl
  once v links (m ∷ ms) zero (suc bt) c e f low =
      absurd (apart v links c low m (entry places v) refl e
      (above (v + 1) (links_after links m (entry places v)) ms bt c f low))
  once v links (m ∷ ms) (suc at) zero c e f low =
      absurd (apart v links c low m (entry places v) refl f
      (above (v + 1) (links_after links m (entry places v)) ms at c e low))
  once v links (m ∷ ms) (suc at) (suc bt) c e f low =
      ap suc (once (v + 1) (links_after links m (entry places v)) ms at bt c e f low)

module _ (x : Framing) (is : IsFraming x) where
  abbrev marks : List Bool
  marks = marks_of (bases_of (F x is)) (slots_of (local x is) (bases_of (F x is))) (Kept x is).values

  pub number_small : (v k : ℕ) → entry (Kept x is).places v ≡ Some k → k < Count x is
  number_small v k e = get_within (Kept x is).values k v ((keeping x is).there v k e)

  cell_of : (v c : ℕ) → entry (plan x).cells v ≡ Some c
      → IsDistanceCell (First x is) (Count x is) (plan x).links (entry (Kept x is).places v) c
  cell_of v c e = (distance_there (First x is) (Count x is) (Kept x is).places marks v c e).cell

  -- a name with the cell of a distance goes back to a local slot
  pub has_root : (v c : ℕ) → entry (plan x).cells v ≡ Some c → (slot : ℕ) × (root_of x v ≡ Some slot)
  has_root v c e =
      marks_have (bases_of (F x is)) (slots_of (local x is) (bases_of (F x is))) (Kept x is).values v
      (distance_there (First x is) (Count x is) (Kept x is).places marks v c e).marked

  module _ (u v c : ℕ) (one : entry (plan x).cells u ≡ Some c) (other : entry (plan x).cells v ≡ Some c) where
    by_cells : (p q : Option ℕ) (y z : ℕ) → IsDistanceCell (First x is) (Count x is) (plan x).links p y
        → IsDistanceCell (First x is) (Count x is) (plan x).links q z → entry (Kept x is).places u ≡ p
        → entry (Kept x is).places v ≡ q → y ≡ c → z ≡ c → u ≡ v
    by_cells _ _ _ _ (OfValue i) (OfValue j) a b d e =
        let number : i ≡ j = omega (arith, d, e) in
        let here : slice_get (Kept x is).values i ≡ Some u = (keeping x is).there u i a in
        let there : slice_get (Kept x is).values j ≡ Some v = (keeping x is).there v j b in
        let both : Some u ≡ Some v = sym here ∙ ap (slice_get (Kept x is).values) number ∙ there in
        cc
    by_cells _ _ _ _ (OfValue i) (OfLink j low) a b d e =
        let lt : i < Count x is = number_small u i a in absurd (omega (arith, lt, d, e))
    by_cells _ _ _ _ (OfLink i low) s a b d e =
        once (First x is) (Count x is) (Kept x is).places number_small 0 0 marks u v c one other (omega (arith, d))

    cell_once : u ≡ v
    cell_once =
        by_cells (entry (Kept x is).places u) (entry (Kept x is).places v) c c (cell_of u c one) (cell_of v c
        other) refl
        refl refl refl

  pub distances_differ : (u v c d : ℕ) → entry (plan x).cells u ≡ Some c → entry (plan x).cells v ≡ Some d → u ≢ v
      → c ≢ d
  distances_differ u v c d e f differ same = differ (cell_once u v c e (f ∙ ap (λ (n : ℕ). Some n) (sym same)))
