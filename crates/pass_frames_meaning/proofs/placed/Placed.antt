-- The offset of a slot is that of its place among what is held.
use Rattle.std.proofs.Common.{◌≡◌, ◌⊎◌, inl, inr, ⊎_elim, ℕ, suc, ◌+◌, ◌<◌, ◌≤◌, Bool, true, false, List, [], ◌∷◌, length, Option, Some, None, refl, sym, ap, ◌∙◌, subst, arith, ◌==◌, if◌then◌else◌}
use Rattle.std.proofs.lemmas.Bool.{eqb-true}
use Rattle.std.specs.Prelude.{replicate, slice_get, slice_set}
use Rattle.pass_frames_proof.proofs.flow_solver.Lists.{set_cases}
use Rattle.pass_frames_proof.specs.frame_contents.Held.{crossing_values, frame_slots, position_from, position_of}
use Rattle.pass_frames_proof.specs.frame_contents.declared.held.Holding.{Holding}
use Rattle.pass_frames_proof.specs.frame_layout.declared.layout.Layout.{Layout}
use Rattle.pass_frames_proof.specs.ir_paths.Slots.{has_name}
use Rattle.pass_frames_proof.specs.pass_cells.Kept.{entry, joined}
use Rattle.pass_frames_proof.specs.pass_frames.Framed.{kept_of}
use Rattle.pass_frames_proof.specs.pass_frames.Tables.{is_slot_kind, offset_at, with_slot_offset, with_slot_offsets}
use Rattle.pass_frames_meaning.proofs.placed.Held.{held_apart, held_within, listed_within, positions_once, value_there}
use Rattle.pass_frames_proof.proofs.code.Left.{longer}
use Rattle.pass_frames_proof.specs.Framings.{IsFraming}
use Rattle.pass_frames_proof.specs.Offsets.{AreHeldOnce}
use Rattle.pass_frames_proof.specs.Places.{Framing, edged, offsets, with_copies}
use Rattle.pass_frames_proof.specs.Stepping.{AreOffsetsPlaced}
use Rattle.pass_frames_proof.proofs.pass_proofs.frames.begin_order.Framed.{none_there}
use Rattle.pass_frames_proof.proofs.pass_proofs.frames.begin_order.Tables.{IsFieldAt, field_at}
use Rattle.pass_frames_proof.proofs.rule_laws.rules.woven_rules.Once.{names_below}
use Rattle.pass_frames_proof.specs.rule_laws.rules.function_rules.Kept.{KeepsFunctionRules}

-- a holding of a value, by its position
pub record IsHeldAt (hs : List Holding) (v n : ℕ) : Type 0 where
  pub held : Holding
  pub there : slice_get hs n ≡ Some held
  pub value : held.value ≡ v

position_there : (k : ℕ) (hs : List Holding) (v p : ℕ) → position_from k hs v ≡ Some p
    → (n : ℕ) × (p ≡ k + n) × IsHeldAt hs v n
position_there k [] v p e = absurd (cc)
position_there k (h ∷ hs) v p e = on (position_there (k + 1) hs v p) (h.value == v) refl e
  where
    on : (position_from (k + 1) hs v ≡ Some p → (n : ℕ) × (p ≡ k + 1 + n) × IsHeldAt hs v n) → (b : Bool)
        → (h.value == v) ≡ b → (if b then Some k else position_from (k + 1) hs v) ≡ Some p
        → (n : ℕ) × (p ≡ k + n) × IsHeldAt (h ∷ hs) v n
    on later true d q =
        let same : k ≡ p = cc in
        (0, omega (arith, same), record { held = h; there = refl; value = eqb-true h.value v d })
    on later false d q =
        let z = later q in
        let far : p ≡ k + 1 + z.0 = z.1 in
        (suc z.0, omega (arith, far), record { held = z.2.held; there = z.2.there; value = z.2.value })

module _ (l : Layout) where
  -- the slot among what is held whose offset it is
  abbrev IsPlacedAt : ℕ → List Holding → ℕ → ℕ → Type 0
  IsPlacedAt k hs v d = (n : ℕ) × (d ≡ offset_at l (k + n)) × IsHeldAt hs v n

  one_placed : (k : ℕ) (h : Holding) (known : List (Option ℕ)) (v d : ℕ)
      → slice_get (with_slot_offset l k h known) v ≡ Some (Some d)
      → (slice_get known v ≡ Some (Some d)) ⊎ ((d ≡ offset_at l k) × (h.value ≡ v))
  one_placed k h known v d e = on (is_slot_kind h.kind) e
    where
      on : (b : Bool) → slice_get (if b then slice_set known h.value (Some (offset_at l k)) else known) v ≡ Some (Some d)
          → (slice_get known v ≡ Some (Some d)) ⊎ ((d ≡ offset_at l k) × (h.value ≡ v))
      on false q = inl q
      on true q = ⊎_elim
          (λ a. let both : Some d ≡ Some (offset_at l k) = a.1 in
          let same : d ≡ offset_at l k = cc in inr (same, sym a.0))
          (λ b. inl b.0) (set_cases known h.value v (Some (offset_at l k)) (Some d) q)

  slot_placed : (k : ℕ) (hs : List Holding) (known : List (Option ℕ)) (v d : ℕ)
      → slice_get (with_slot_offsets l k hs known) v ≡ Some (Some d)
      → (slice_get known v ≡ Some (Some d)) ⊎ IsPlacedAt k hs v d
  slot_placed k [] known v d e = inl e
  slot_placed k (h ∷ hs) known v d e =
      ⊎_elim here later (slot_placed (k + 1) hs (with_slot_offset l k h known) v d e)
    where
      here : slice_get (with_slot_offset l k h known) v ≡ Some (Some d)
          → (slice_get known v ≡ Some (Some d)) ⊎ IsPlacedAt k (h ∷ hs) v d
      here q = ⊎_elim (λ old. inl old)
          (λ a. let first : k ≡ k + 0 = omega arith in
          inr (0, a.0 ∙ ap (offset_at l) first, record { held = h; there = refl; value = a.1 }))
          (one_placed k h known v d q)

      later : IsPlacedAt (k + 1) hs v d → (slice_get known v ≡ Some (Some d)) ⊎ IsPlacedAt k (h ∷ hs) v d
      later z =
          let next : k + 1 + z.0 ≡ k + suc z.0 = omega arith in
          inr (
            suc z.0,
            z.1 ∙ ap (offset_at l) next,
            record { held = z.2.held; there = z.2.there; value = z.2.value },
          )

told : (t : List (Option ℕ)) (v d : ℕ) → entry t v ≡ Some d → slice_get t v ≡ Some (Some d)
told t v d e = on (slice_get t v) refl e
  where
    on : (o : Option (Option ℕ)) → slice_get t v ≡ o → joined o ≡ Some d → slice_get t v ≡ Some (Some d)
    on None q h = absurd (cc)
    on (Some o) q h = q ∙ ap (λ (z : Option ℕ). Some z) h

module _ (x : Framing) (is : IsFraming x) (position : ℕ) (rules : KeepsFunctionRules x.code position x.function) where
  abbrev is_value : ℕ → Bool
  is_value v = has_name (crossing_values x.contents.crossing) v

  abbrev is_slot : ℕ → Bool
  is_slot v = has_name (frame_slots x.function x.contents.classes) v

  abbrev First : ℕ
  First = length (edged x).names

  once : AreHeldOnce x.contents.held
  once = subst AreHeldOnce (sym is.frameable.contents.held_are)
      (record { each = positions_once _ (held_apart x.code position x.function is_value is_slot rules) })

  low : (n : ℕ) (v : ℕ) → IsHeldAt x.contents.held v n → v < First
  low n v h =
      let listed = subst (λ (hs : List Holding). slice_get hs n ≡ Some h.held) is.frameable.contents.held_are h.there in
      let lt : h.held.value < length x.function.names =
      names_below position x.function rules.tabled h.held.value
      (listed_within h.held.value _ _ (value_there _ n h.held listed)
      (held_within x.code x.function is_value is_slot)) in
      let up : length x.function.names ≤ First = longer x.function.names _ in
      let same = h.value in
      omega (arith, lt, up, same)

  place : (v d p : ℕ) → entry (offsets x) v ≡ Some d → position_of x.contents.held v ≡ Some p
      → d ≡ offset_at x.layout p
  place v d p e held = ⊎_elim old field
      (field_at x.layout x.contents.positions First (length (kept_of First x.contents)) 0 (kept_of First x.contents)
      (with_slot_offsets x.layout 0 x.contents.held (replicate (length (with_copies x).names) None)) v d
      (told (offsets x) v d e))
    where
      z : (n : ℕ) × (p ≡ 0 + n) × IsHeldAt x.contents.held v n
      z = position_there 0 x.contents.held v p held

      old : slice_get (with_slot_offsets x.layout 0 x.contents.held (replicate (length (with_copies x).names) None)) v
          ≡ Some (Some d) → d ≡ offset_at x.layout p
      old q = ⊎_elim (λ none. absurd (none_there (length (with_copies x).names) v d none)) slot
          (slot_placed x.layout 0 x.contents.held (replicate (length (with_copies x).names) None) v d q)
        where
          slot : IsPlacedAt x.layout 0 x.contents.held v d → d ≡ offset_at x.layout p
          slot y =
              let same : y.0 ≡ z.0 =
              once.each y.0 z.0 y.2.held z.2.held y.2.there z.2.there (y.2.value ∙ sym z.2.value) in
              let far : p ≡ 0 + z.0 = z.1 in
              let to : 0 + y.0 ≡ p = omega (arith, same, far) in
              y.1 ∙ ap (offset_at x.layout) to

      field : IsFieldAt x.layout First (length (kept_of First x.contents)) 0 (kept_of First x.contents) v d
          → d ≡ offset_at x.layout p
      field y =
          let lt : v < First = low z.0 v z.2 in
          let name : v ≡ First + length (kept_of First x.contents) + (0 + y.number) = y.name in
          absurd (omega (arith, lt, name))

pub held_once : (x : Framing) → IsFraming x → (position : ℕ) → KeepsFunctionRules x.code position x.function
    → AreHeldOnce x.contents.held
held_once x is position rules = once x is position rules

pub offsets_placed : (x : Framing) → IsFraming x → (position : ℕ) → KeepsFunctionRules x.code position x.function
    → AreOffsetsPlaced x
offsets_placed x is position rules = record { each = place x is position rules }
