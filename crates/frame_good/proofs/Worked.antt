-- The worked layouts.
use Rattle.std.proofs.Common.{◌≡◌, ◌≢◌, ◌⊎◌, inl, inr, ℕ, zero, suc, ◌+◌, ◌%◌, ◌<◌, ◌≤◌, true, [], ◌∷◌, Some, refl, sym, ◌∙◌, subst, arith}
use Rattle.std.specs.Prelude.{slice_get}
use Rattle.frame_placing.specs.Placed.{Always}
use Rattle.frame_layout.specs.Layouts.{placed}
use Rattle.frame_layout.specs.Layouts as layouts
use Rattle.frame_layout.specs.declared.layout.Field.{Field}
use Rattle.frame_layout.specs.declared.layout.Layout.{Layout}
use Rattle.frame_layout.specs.declared.layout.PlacedField.{PlacedField}
use Rattle.frame_good.specs.Good.{AreApart, AreFit, IsGoodField, IsGoodLayout, is_alignment, offset_of}
use Rattle.frame_good.specs.Worked.{a_value, the_index, value_at, worked_fields, worked_layout}

-- what holds of each of three elements
three : {A : Type 0} (P : ℕ → A → Type 0) (a b c : A) → P 0 a → P 1 b → P 2 c → (k : ℕ) (x : A)
    → slice_get (a ∷ b ∷ c ∷ []) k ≡ Some x → P k x
three P a b c p q r zero x e = let same : a ≡ x = cc in subst (P 0) same p
three P a b c p q r (suc zero) x e = let same : b ≡ x = cc in subst (P 1) same q
three P a b c p q r (suc (suc zero)) x e = let same : c ≡ x = cc in subst (P 2) same r
three P a b c p q r (suc (suc (suc k))) x e = absurd (cc)

abbrev l : Layout
l = worked_layout 20

-- the two share the bytes 18 and 19
pub not_good : IsGoodLayout 0 worked_fields Always (worked_layout 18) → ⊥
not_good h = h.apart 0 1 a_value a_value refl refl (λ e. absurd (omega (arith, e))) tt 18 (omega arith, omega arith)
    (omega arith, omega arith)

-- the layout is of the coroutine 0
pub not_of_other : IsGoodLayout 1 worked_fields Always (worked_layout 20) → ⊥
not_of_other h = let same = h.is_of in absurd (omega (arith, same))

value_good : (offset : ℕ) → 16 ≤ offset → offset + 4 ≤ 32 → offset % 4 ≡ 0 → IsGoodField l a_value offset
value_good offset low high even = record {
  behind_header = low;
  inside = high;
  aligned = even;
  in_aligned = omega arith;
  promise_at = λ p. absurd (cc);
  index_at = λ p. absurd (cc);
}

index_good : IsGoodField l the_index 24
index_good = record {
  behind_header = omega arith;
  inside = omega arith;
  aligned = refl;
  in_aligned = omega arith;
  promise_at = λ p. absurd (cc);
  index_at = λ p. refl;
}

Apart : ℕ → Field → ℕ → Field → Type 0
Apart j x k y = j ≢ k → Always j k → AreApart (offset_of l j) x.size (offset_of l k) y.size

same_no : (j : ℕ) (x y : Field) → Apart j x j y
unfolding Apart
same_no j x y ne c = absurd (ne refl)

two_apart : (a m b n : ℕ) → (a + m ≤ b) ⊎ (b + n ≤ a) → AreApart a m b n
two_apart a m b n (inl h) byte one other = let below = one.1 in let from = other.0 in
    absurd (omega (arith, h, below, from))
two_apart a m b n (inr h) byte one other = let below = other.1 in let from = one.0 in
    absurd (omega (arith, h, below, from))

all_apart : (j k : ℕ) (x y : Field) → slice_get worked_fields j ≡ Some x → slice_get worked_fields k ≡ Some y
    → Apart j x k y
unfolding Apart
all_apart j k x y e f =
    three (λ (j : ℕ) (x : Field). (k : ℕ) (y : Field) → slice_get worked_fields k ≡ Some y
    → Apart j x k y) a_value a_value the_index
    (three (Apart 0 a_value) a_value a_value the_index (same_no 0 a_value a_value)
    (λ ne c. two_apart 16 4 20 4 (inl (omega arith))) (λ ne c. two_apart 16 4 24 1 (inl (omega arith))))
    (three (Apart 1 a_value) a_value a_value the_index (λ ne c. two_apart 20 4 16 4 (inr (omega arith)))
    (same_no 1 a_value a_value) (λ ne c. two_apart 20 4 24 1 (inl (omega arith))))
    (three (Apart 2 the_index) a_value a_value the_index (λ ne c. two_apart 24 1 16 4 (inr (omega arith)))
    (λ ne c. two_apart 24 1 20 4 (inr (omega arith))) (same_no 2 the_index the_index))
    j x e k y f

shown_each : (k : ℕ) → k < 3 → (a : ℕ) × (slice_get l.fields a ≡ Some (placed worked_fields l.offsets k))
shown_each zero h = (0, refl)
shown_each (suc zero) h = (1, refl)
shown_each (suc (suc zero)) h = (2, refl)
shown_each (suc (suc (suc k))) h = absurd (omega (arith, h))

IsShown : ℕ → PlacedField → Type 0
IsShown a x = (k : ℕ) × (k < 3) × (x ≡ placed worked_fields l.offsets k)

shown_only : (a : ℕ) (x : PlacedField) → slice_get l.fields a ≡ Some x
    → (k : ℕ) × (k < 3) × (x ≡ placed worked_fields l.offsets k)
unfolding IsShown
shown_only a x e = three IsShown (value_at 16) (value_at 20) (placed worked_fields l.offsets 2) (0, omega arith, refl)
    (1, omega arith, refl) (2, omega arith, refl) a x e

pub is_good : IsGoodLayout 0 worked_fields Always (worked_layout 20)
unfolding Apart
is_good =
    record {
      is_of = refl;
      one_each = refl;
      each = three (λ (k : ℕ) (x : Field). IsGoodField l x (offset_of l k)) a_value a_value the_index
          (value_good 16 (omega arith) (omega arith) refl) (value_good 20 (omega arith) (omega arith) refl) index_good;
      apart = all_apart;
      shown = record { each = shown_each; only = shown_only };
      alignment = inl refl;
      rounded = refl;
      from = omega arith;
      within = omega arith;
    }

-- ---- the fields are fit

is_none_promise : (k : ℕ) (x : Field) → slice_get worked_fields k ≡ Some x → layouts.is_promise x.kind ≡ true → ⊥
is_none_promise = three (λ (k : ℕ) (x : Field). layouts.is_promise x.kind ≡ true → ⊥) a_value a_value the_index
    (λ e. absurd (cc)) (λ e. absurd (cc)) (λ e. absurd (cc))

is_last_index : (k : ℕ) (x : Field) → slice_get worked_fields k ≡ Some x → layouts.is_index x.kind ≡ true → k ≡ 2
is_last_index = three (λ (k : ℕ) (x : Field). layouts.is_index x.kind ≡ true → k ≡ 2) a_value a_value the_index
    (λ e. absurd (cc)) (λ e. absurd (cc)) (λ e. refl)

pub fields_fit : AreFit worked_fields
fields_fit =
    record {
      aligned = three (λ (k : ℕ) (x : Field). is_alignment x.align ≡ true) a_value a_value the_index refl refl refl;
      one_promise = λ j k x y e f p q. absurd (is_none_promise j x e p);
      one_index = λ j k x y e f p q. is_last_index j x e p ∙ sym (is_last_index k y f q);
      last = 2;
      index = the_index;
      is_there = refl;
      is_index = refl;
      takes_bytes = omega arith;
    }
