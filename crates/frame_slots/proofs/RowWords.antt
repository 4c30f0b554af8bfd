-- What stands in the rows of a function's text.
use Rattle.std.proofs.Common.{◌≡◌, ℕ, zero, suc, List, [], ◌∷◌, ◌++◌, map, length, Option, Some, None, refl, ap, ◌∙◌, subst, ⊎_elim, inl, inr}
use Rattle.std.specs.Prelude.{◌⊎◌, option_map, slice_get, unwrap_or}
use Rattle.std.proofs.lemmas.Option.{slice_get-map}
use Rattle.flow_bits.specs.Bits.{HasBit}
use Rattle.ir_model.specs.declared.instr.Instr.{Instr}
use Rattle.ir_model.specs.declared.instr.Terminator.{Terminator}
use Rattle.ir_model.specs.declared.module.Block.{Block}
use Rattle.ir_model.specs.declared.module.Function.{Function}
use Rattle.ir_paths.specs.Windows.{instr_at, instr_in}
use Rattle.ir_paths.specs.declared.point.Point.{Point}
use Rattle.frame_slots.proofs.Bits.{no_bit}
use Rattle.frame_slots.specs.Words.{row_with, word_at_point}

-- ---- one row

instr_word : {X : Type 0} (g : X → ℕ) (xs : List X) (last : ℕ) (at : ℕ) (x : X) → slice_get xs at ≡ Some x → slice_get (map g xs ++ last ∷ []) at ≡ Some (g x)
instr_word g [] last at x e = absurd (cc)
instr_word g (y ∷ xs) last zero x e = let same : y ≡ x = cc in ap (λ z. Some (g z)) same
instr_word g (y ∷ xs) last (suc at) x e = instr_word g xs last at x e

last_word : {X : Type 0} (g : X → ℕ) (xs : List X) (last : ℕ) → slice_get (map g xs ++ last ∷ []) (length xs) ≡ Some last
last_word g [] last = refl
last_word g (x ∷ xs) last = last_word g xs last

-- what has the bit is an element, or the last
pub record HasElement {X : Type 0} (g : X → ℕ) (xs : List X) (at c : ℕ) : Type 0 where
  pub element : X
  pub stands : slice_get xs at ≡ Some element
  pub has : HasBit (g element) c

row_cases : {X : Type 0} (g : X → ℕ) (xs : List X) (last : ℕ) (at c : ℕ) → HasBit (unwrap_or (slice_get (map g xs ++ last ∷ []) at) 0) c → HasElement g xs at c ⊎ ((at ≡ length xs) × HasBit last c)
row_cases g [] last zero c h = inr (refl, h)
row_cases g [] last (suc at) c h = absurd (no_bit c h)
row_cases g (x ∷ xs) last zero c h = inl (record { element = x; stands = refl; has = h })
row_cases g (x ∷ xs) last (suc at) c h = ⊎_elim
    (λ here. inl (record { element = here.element; stands = here.stands; has = here.has }))
    (λ there. inr (ap suc there.0, there.1))
    (row_cases g xs last at c h)

-- ---- all rows

pub record AtInstr (g : Instr → ℕ) (f : Function) (p : Point) (c : ℕ) : Type 0 where
  pub instr : Instr
  pub stands : instr_at f p ≡ Some instr
  pub has : HasBit (g instr) c

pub record AtTerm (h : Terminator → ℕ) (f : Function) (p : Point) (c : ℕ) : Type 0 where
  pub block : Block
  pub is_block : slice_get f.blocks p.block ≡ Some block
  pub is_last : p.at ≡ length block.instrs
  pub has : HasBit (h block.term) c

module _ (g : Instr → ℕ) (h : Terminator → ℕ) (f : Function) where
  abbrev rows : List (List ℕ)
  rows = map (row_with g h) f.blocks

  abbrev word_in : Option Block → ℕ → ℕ
  word_in o at = unwrap_or (slice_get (unwrap_or (option_map (row_with g h) o) []) at) 0

  word_is : (p : Point) → word_at_point rows p ≡ word_in (slice_get f.blocks p.block) p.at
  word_is p = ap (λ (o : Option (List ℕ)). unwrap_or (slice_get (unwrap_or o []) p.at) 0) (slice_get-map (row_with g h) f.blocks p.block)

  -- the word of an instruction
  pub at_instr : (p : Point) (i : Instr) → instr_at f p ≡ Some i → word_at_point rows p ≡ g i
  at_instr p i e = word_is p ∙ by (slice_get f.blocks p.block) e
    where
      by : (o : Option Block) → instr_in o p.at ≡ Some i → word_in o p.at ≡ g i
      by None e = absurd (cc)
      by (Some b) e = ap (λ (o : Option ℕ). unwrap_or o 0) (instr_word g b.instrs (h b.term) p.at i e)

  -- the word of a terminator
  pub at_term : (p : Point) (b : Block) → slice_get f.blocks p.block ≡ Some b → p.at ≡ length b.instrs → word_at_point rows p ≡ h b.term
  at_term p b e last =
      word_is p ∙ ap (λ (o : Option Block). word_in o p.at) e
      ∙ ap (λ (at : ℕ). unwrap_or (slice_get (map g b.instrs ++ h b.term ∷ []) at) 0) last
      ∙ ap (λ (o : Option ℕ). unwrap_or o 0) (last_word g b.instrs (h b.term))

  -- there are no others
  pub point_cases : (p : Point) (c : ℕ) → HasBit (word_at_point rows p) c → AtInstr g f p c ⊎ AtTerm h f p c
  point_cases p c has = by (slice_get f.blocks p.block) refl (subst (λ (w : ℕ). HasBit w c) (word_is p) has)
    where
      by : (o : Option Block) → slice_get f.blocks p.block ≡ o → HasBit (word_in o p.at) c → AtInstr g f p c ⊎ AtTerm h f p c
      by None e has = absurd (no_bit c has)
      by (Some b) e has = ⊎_elim
          (λ here. inl (record { instr = here.element; stands = ap (λ (o : Option Block). instr_in o p.at) e ∙ here.stands; has = here.has }))
          (λ there. inr (record { block = b; is_block = e; is_last = there.0; has = there.1 }))
          (row_cases g b.instrs (h b.term) p.at c has)
