-- Extents whose sizes are cut off are those of the types, cut off.
use Rattle.std.proofs.Common.{◌≡◌, ℕ, zero, suc, max, ◌+◌, ◌-◌, ◌*◌, ◌≤◌, refl, ap, sym, ◌∙◌, arith, Option, Some, None, inl, inr}
use Rattle.std.specs.Prelude.{option_map, ◌^◌, ◌⊎◌}
use Rattle.std.proofs.Math.Nat.{suc-mul, zero-mul}
use Rattle.ir_base.specs.declared.name.Name.{Name}
use Rattle.ir_model.specs.Layout.{Extent as LayoutExtent, array_extent, extent_in, extent_then, fields_extent, no_fields, padded, rounded_up, with_field}
use Rattle.ir_model.specs.Ty.{Ty, Tys, array, field, int, named, none, ptr, structure, token}
use Rattle.ir_sizes.specs.Cut.{capped, cut, cut_up, cut_array, cut_field, cut_padded, cut_start, cut_then, cut_fields, cut_in}
use Rattle.ir_sizes.specs.declared.extent.Extent.{Extent}

either : (s m : ℕ) → (s ≤ m) ⊎ (m ≤ s)
either zero m = inl (omega arith)
either (suc s) zero = inr (omega arith)
either (suc s) (suc m) = elim (either s m) [ inl h ↦ inl (omega arith) | inr h ↦ inr (omega arith) ]

-- ---- numbers

big-times : (k s : ℕ) → 2 ^ 64 - 1 ≤ s → capped (suc k * s) ≡ 2 ^ 64 - 1
big-times k s h = let e = suc-mul k s in omega (arith, e)

times-by : (c s : ℕ) → (s ≤ 2 ^ 64 - 1) ⊎ (2 ^ 64 - 1 ≤ s) → capped (c * capped s) ≡ capped (c * s)
times-by zero s h = ap capped (zero-mul (capped s) ∙ sym (zero-mul s))
times-by (suc k) s h =
    elim h [
      | inl le ↦ let e : capped s ≡ s = omega arith in ap (λ (x : ℕ). capped (suc k * x)) e
      | inr ge ↦ let e : 2 ^ 64 - 1 ≤ capped s = omega arith in big-times k (capped s) e ∙ sym (big-times k s ge)
    ]

capped-times : (c s : ℕ) → capped (c * capped s) ≡ capped (c * s)
capped-times c s = times-by c s (either s (2 ^ 64 - 1))

up-ge : (n a : ℕ) → n ≤ rounded_up n (suc a)
up-ge n a = omega arith

up-by : (n a : ℕ) → (n ≤ 2 ^ 64 - 1) ⊎ (2 ^ 64 - 1 ≤ n) → cut_up (capped n) a ≡ cut_up n a
up-by n zero h = ap capped (up-zero (capped n) ∙ sym (up-zero n))
  where
    up-zero : (m : ℕ) → rounded_up m 0 ≡ 0
    up-zero m = omega arith
up-by n (suc a) h =
    elim h [
      | inl le ↦ let e : capped n ≡ n = omega arith in ap (λ (x : ℕ). cut_up x (suc a)) e
      | inr ge ↦ let e : capped n ≡ 2 ^ 64 - 1 = omega arith in omega (arith, up-ge n a, up-ge (capped n) a)
    ]

capped-up : (n a : ℕ) → cut_up (capped n) a ≡ cut_up n a
capped-up n a = up-by n a (either n (2 ^ 64 - 1))

capped-plus : (m n : ℕ) → capped (capped m + capped n) ≡ capped (m + n)
capped-plus m n = omega arith

-- ---- extents

cut-array : (n : ℕ) (e : LayoutExtent) → cut_array n (cut e) ≡ cut (array_extent n e)
cut-array n e = ap (λ (s : ℕ). record { size = s; align = e.align }) (capped-times n e.size)

cut-field : (e f : LayoutExtent) → cut_field (cut e) (cut f) ≡ cut (with_field e f)
cut-field e f =
    ap (λ (s : ℕ). record { size = capped (s + capped f.size); align = max e.align f.align }) (capped-up e.size f.align)
    ∙ ap (λ (s : ℕ). record { size = s; align = max e.align f.align }) (capped-plus (rounded_up e.size f.align) f.size)

cut-padded : (e : LayoutExtent) → cut_padded (cut e) ≡ cut (padded e)
cut-padded e = ap (λ (s : ℕ). record { size = s; align = e.align }) (capped-up e.size e.align)

-- ---- types

map-by : (f : Extent → Extent) (g : LayoutExtent → LayoutExtent) → ((e : LayoutExtent) → f (cut e) ≡ cut (g e)) → (o : Option LayoutExtent) → option_map f (option_map cut o) ≡ option_map cut (option_map g o)
map-by f g h None = refl
map-by f g h (Some e) = ap Some (h e)

then-by : (F : Ty → Option Extent) (E : Ty → Option LayoutExtent) (e : LayoutExtent) (ts : Tys) (o : Option LayoutExtent) → ((f : LayoutExtent) → cut_fields F (cut (with_field e f)) ts ≡ option_map cut (fields_extent E (with_field e f) ts)) → cut_then (option_map cut o) (λ f. cut_fields F (cut_field (cut e) f) ts) ≡ option_map cut (extent_then o (λ f. fields_extent E (with_field e f) ts))
then-by F E e ts None h = refl
then-by F E e ts (Some f) h = ap (λ (x : Extent). cut_fields F x ts) (cut-field e f) ∙ h f

cut-fields : (F : Ty → Option Extent) (E : Ty → Option LayoutExtent) → ((t : Ty) → F t ≡ option_map cut (E t)) → (ts : Tys) (e : LayoutExtent) → cut_fields F (cut e) ts ≡ option_map cut (fields_extent E e ts)
cut-fields F E h none e = refl
cut-fields F E h (field t ts) e =
    ap (λ (o : Option Extent). cut_then o (λ f. cut_fields F (cut_field (cut e) f) ts)) (h t)
    ∙ then-by F E e ts (E t) (λ f. cut-fields F E h ts (with_field e f))

pub cut-in : (K : Name → Option Extent) (E : Name → Option LayoutExtent) → ((n : Name) → K n ≡ option_map cut (E n)) → (d : ℕ) (t : Ty) → cut_in K d t ≡ option_map cut (extent_in E d t)
cut-in K E h zero t = refl
cut-in K E h (suc d) (int w) = refl
cut-in K E h (suc d) ptr = refl
cut-in K E h (suc d) token = refl
cut-in K E h (suc d) (array n t) = ap (option_map (cut_array n)) (cut-in K E h d t) ∙ map-by (cut_array n) (array_extent n) (cut-array n) (extent_in E d t)
cut-in K E h (suc d) (structure ts) =
    ap (option_map cut_padded) (cut-fields (cut_in K d) (extent_in E d) (cut-in K E h d) ts no_fields) ∙ map-by cut_padded padded cut-padded (fields_extent (extent_in E d) no_fields ts)
cut-in K E h (suc d) (named n) = h n

-- ---- a structure

nonzero : (n : ℕ) → (n ≡ 0 → ⊥) → n ≡ suc (n - 1)
nonzero zero h = absurd (h refl)
nonzero (suc n) h = omega arith

pub of_structure : (K : Name → Option Extent) (depth : ℕ) (t : Ty) (ts : Tys) → (depth ≡ 0 → ⊥) → structure ts ≡ t → cut_in K depth t ≡ option_map cut_padded (cut_fields (cut_in K (depth - 1)) cut_start ts)
of_structure K depth t ts h is = ap (λ d. cut_in K d t) (nonzero depth h) ∙ ap (λ u. cut_in K (suc (depth - 1)) u) (sym is)
