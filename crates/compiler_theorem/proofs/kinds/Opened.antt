-- What good layouts say of the field of a value or a slot.
use Rattle.std.proofs.Common.{◌≡◌, ◌⊎◌, inl, inr, ⊎_elim, ◌==◌, ◌||◌, ℕ, zero, suc, ◌+◌, ◌≤◌, ◌%◌, ◌^◌, ◌∷◌, ◌++◌, [], Bool, true, false, List, max, map, Option, Some, refl, sym, ap, ◌∙◌, subst, arith}
use Rattle.std.specs.Prelude.{slice_get, slice_index_or}
use Rattle.std.proofs.lemmas.Option.{slice_get_within}
use Rattle.compiler.specs.frame_contents.Held.{field_of, fields_of, index_field}
use Rattle.compiler.specs.frame_contents.declared.held.Holding.{Holding}
use Rattle.compiler.specs.frame_good.Good.{AreFit, IsGoodField, IsGoodLayout, is_alignment}
use Rattle.compiler.specs.frame_layout.Layouts.{placed, placed_or}
use Rattle.compiler.specs.frame_layout.declared.layout.Field.{Field}
use Rattle.compiler.specs.frame_layout.declared.layout.Layout.{Layout}
use Rattle.compiler.proofs.ir_laws.facts.Truth.{equal_numbers}
use Rattle.compiler.specs.ir_model.declared.module.Function.{Function}
use Rattle.compiler.specs.ir_sizes.Cut.{capped}
use Rattle.compiler.specs.pass_frames.Tables.{offset_at}
use Rattle.pass_frames_meaning.specs.pass_frames_proof.Slotted.{IsSlotField}
use Rattle.compiler.specs.run_framed.Framed.{is_open_kind}
use Rattle.compiler.specs.run_laws.memory.Standing.{IsAlignment}

-- ---- alignments

halved : (o : ℕ) → (o % 16 ≡ 0 → o % 8 ≡ 0) × (o % 8 ≡ 0 → o % 4 ≡ 0) × (o % 4 ≡ 0 → o % 2 ≡ 0)
halved o = (λ e. omega (arith, e), λ e. omega (arith, e), λ e. omega (arith, e))

one : (o : ℕ) → o % 1 ≡ 0
one o = omega arith

four_of : (o a : ℕ) → a ≤ 4 → IsAlignment a → o % 4 ≡ 0 → o % a ≡ 0
four_of o a le (inl e) h = subst (λ (n : ℕ). o % n ≡ 0) (sym e) (one o)
four_of o a le (inr (inl e)) h = subst (λ (n : ℕ). o % n ≡ 0) (sym e) ((halved o).2 h)
four_of o a le (inr (inr (inl e))) h = subst (λ (n : ℕ). o % n ≡ 0) (sym e) h
four_of o a le (inr (inr (inr (inl e)))) h = absurd (omega (arith, le, e))
four_of o a le (inr (inr (inr (inr e)))) h = absurd (omega (arith, le, e))

eight_of : (o a : ℕ) → a ≤ 8 → IsAlignment a → o % 8 ≡ 0 → o % a ≡ 0
eight_of o a le (inl e) h = subst (λ (n : ℕ). o % n ≡ 0) (sym e) (one o)
eight_of o a le (inr (inl e)) h = subst (λ (n : ℕ). o % n ≡ 0) (sym e) ((halved o).2 ((halved o).1 h))
eight_of o a le (inr (inr (inl e))) h = subst (λ (n : ℕ). o % n ≡ 0) (sym e) ((halved o).1 h)
eight_of o a le (inr (inr (inr (inl e)))) h = subst (λ (n : ℕ). o % n ≡ 0) (sym e) h
eight_of o a le (inr (inr (inr (inr e)))) h = absurd (omega (arith, le, e))

sixteen_of : (o a : ℕ) → IsAlignment a → o % 16 ≡ 0 → o % a ≡ 0
sixteen_of o a (inl e) h = subst (λ (n : ℕ). o % n ≡ 0) (sym e) (one o)
sixteen_of o a (inr (inl e)) h =
    subst (λ (n : ℕ). o % n ≡ 0) (sym e) ((halved o).2 ((halved o).1 ((halved o).0 h)))
sixteen_of o a (inr (inr (inl e))) h = subst (λ (n : ℕ). o % n ≡ 0) (sym e) ((halved o).1 ((halved o).0 h))
sixteen_of o a (inr (inr (inr (inl e)))) h = subst (λ (n : ℕ). o % n ≡ 0) (sym e) ((halved o).0 h)
sixteen_of o a (inr (inr (inr (inr e)))) h = subst (λ (n : ℕ). o % n ≡ 0) (sym e) h

two_of : (o a : ℕ) → a ≤ 2 → IsAlignment a → o % 2 ≡ 0 → o % a ≡ 0
two_of o a le (inl e) h = subst (λ (n : ℕ). o % n ≡ 0) (sym e) (one o)
two_of o a le (inr (inl e)) h = subst (λ (n : ℕ). o % n ≡ 0) (sym e) h
two_of o a le (inr (inr (inl e))) h = absurd (omega (arith, le, e))
two_of o a le (inr (inr (inr (inl e)))) h = absurd (omega (arith, le, e))
two_of o a le (inr (inr (inr (inr e)))) h = absurd (omega (arith, le, e))

one_of : (o a : ℕ) → a ≤ 1 → IsAlignment a → o % a ≡ 0
one_of o a le (inl e) = subst (λ (n : ℕ). o % n ≡ 0) (sym e) (one o)
one_of o a le (inr (inl e)) = absurd (omega (arith, le, e))
one_of o a le (inr (inr (inl e))) = absurd (omega (arith, le, e))
one_of o a le (inr (inr (inr (inl e)))) = absurd (omega (arith, le, e))
one_of o a le (inr (inr (inr (inr e)))) = absurd (omega (arith, le, e))

no_alignment : (a : ℕ) → IsAlignment a → a ≤ 0 → ⊥
no_alignment a (inl e) le = omega (arith, e, le)
no_alignment a (inr (inl e)) le = omega (arith, e, le)
no_alignment a (inr (inr (inl e))) le = omega (arith, e, le)
no_alignment a (inr (inr (inr (inl e)))) le = omega (arith, e, le)
no_alignment a (inr (inr (inr (inr e)))) le = omega (arith, e, le)

-- an offset that meets an alignment meets each smaller one
aligned_down : (o b : ℕ) → IsAlignment b → o % max b 1 ≡ 0 → (a : ℕ) → IsAlignment a → a ≤ b → o % a ≡ 0
aligned_down o b (inl e) h a is le = one_of o a (subst (λ (n : ℕ). a ≤ n) e le) is
aligned_down o b (inr (inl e)) h a is le =
    two_of o a (subst (λ (n : ℕ). a ≤ n) e le) is (subst (λ (n : ℕ). o % max n 1 ≡ 0) e h)
aligned_down o b (inr (inr (inl e))) h a is le =
    four_of o a (subst (λ (n : ℕ). a ≤ n) e le) is (subst (λ (n : ℕ). o % max n 1 ≡ 0) e h)
aligned_down o b (inr (inr (inr (inl e)))) h a is le =
    eight_of o a (subst (λ (n : ℕ). a ≤ n) e le) is (subst (λ (n : ℕ). o % max n 1 ≡ 0) e h)
aligned_down o b (inr (inr (inr (inr e)))) h a is le =
    sixteen_of o a is (subst (λ (n : ℕ). o % max n 1 ≡ 0) e h)

-- ---- which alignments there are

or_case : (b c : Bool) → (b || c) ≡ true → (b ≡ true) ⊎ (c ≡ true)
or_case true c e = inl refl
or_case false c e = inr e

-- 0 stands for 1
alignment_is : (n : ℕ) → is_alignment n ≡ true → (n ≡ 0) ⊎ IsAlignment n
alignment_is n e = ⊎_elim
    (λ (z : (n == 0) ≡ true). inl (equal_numbers n 0 z))
    (λ r1. ⊎_elim
    (λ (z : (n == 1) ≡ true). inr (inl (equal_numbers n 1 z)))
    (λ r2. ⊎_elim
    (λ (z : (n == 2) ≡ true). inr (inr (inl (equal_numbers n 2 z))))
    (λ r3. ⊎_elim
    (λ (z : (n == 4) ≡ true). inr (inr (inr (inl (equal_numbers n 4 z)))))
    (λ r4. ⊎_elim
    (λ (z : (n == 8) ≡ true). inr (inr (inr (inr (inl (equal_numbers n 8 z))))))
    (λ (z : (n == 16) ≡ true). inr (inr (inr (inr (inr (equal_numbers n 16 z))))))
    (or_case (n == 8) (n == 16) r4))
    (or_case (n == 4) _ r3))
    (or_case (n == 2) _ r2))
    (or_case (n == 1) _ r1))
    (or_case (n == 0) _ e)

-- ---- fields

pub field_there : (f : Function) (hs : List Holding) (n : ℕ) (h : Holding) → slice_get hs n ≡ Some h
    → slice_get (map (field_of f) hs ++ index_field f ∷ []) n ≡ Some (field_of f h)
field_there f [] n h e = absurd (cc)
field_there f (x ∷ hs) zero h e = let same : x ≡ h = cc in ap (λ (y : Holding). Some (field_of f y)) same
field_there f (x ∷ hs) (suc n) h e = field_there f hs n h e

module _ (func : ℕ) (f : Function) (hs : List Holding) (C : ℕ → ℕ → Type 0) (l : Layout)
    (good : IsGoodLayout func (fields_of f hs) C l) (fit : AreFit (fields_of f hs)) (p : ℕ) (h : Holding) (there : slice_get hs p ≡ Some h) where
  field : slice_get (fields_of f hs) p ≡ Some (field_of f h)
  field = field_there f hs p h there

  is_good : IsGoodField l (field_of f h) (offset_at l p)
  is_good = good.each p (field_of f h) field

  shown : (a : ℕ) × (slice_get l.fields a ≡ Some (placed (fields_of f hs) l.offsets p))
  shown = good.shown.each p (slice_get_within (fields_of f hs) p (field_of f h) field)

  placed_is : placed (fields_of f hs) l.offsets p ≡ placed_or (Some (field_of f h)) (slice_index_or l.offsets p 0)
  placed_is = ap (λ (o : Option Field). placed_or o (slice_index_or l.offsets p 0)) field

  -- its bytes are open, behind the header, and as aligned as it
  pub opened : is_open_kind h.kind ≡ true → IsSlotField l (offset_at l p) h.size h.align
  opened is_open = record {
    number = shown.0;
    field = placed_or (Some (field_of f h)) (slice_index_or l.offsets p 0);
    there = shown.1 ∙ ap Some placed_is;
    opened = is_open;
    from = omega arith;
    to = omega arith;
    inside = is_good.inside;
    behind = is_good.behind_header;
    aligned = ⊎_elim
        (λ zero_is a is le. absurd (no_alignment a is (subst (λ (n : ℕ). a ≤ n) zero_is le)))
        (λ alignment. aligned_down (offset_at l p) h.align alignment is_good.aligned)
        (alignment_is h.align (fit.aligned p (field_of f h) field));
    in_aligned = is_good.in_aligned;
  }

  pub size_low : h.size ≤ 2 ^ 24
  size_low =
      let a = is_good.inside in
      let b = good.within in
      let d = above (offset_at l p) h.size l.size a in
      omega (arith, d, b)
    where
      above : (o n m : ℕ) → o + n ≤ m → n ≤ m
      above o n m e = omega (arith, e)

-- a size that fits isn't cut off
pub uncut : (n : ℕ) → capped n ≤ 2 ^ 24 → capped n ≡ n
uncut n lt = omega (arith, lt)
