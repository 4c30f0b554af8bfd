-- The offsets of fields, with sizes cut off at 2^64 - 1.
use Rattle.std.proofs.Common.{◌≡◌, ◌<◌, ◌≤◌, ◌+◌, ◌-◌, ℕ, zero, suc, List, [], ◌∷◌, length, drop, get_or, drop-cons, add-one, refl, ap, sym, ◌∙◌, arith, inl, inr}
use Rattle.std.specs.Prelude.{◌^◌, ◌⊎◌}
use Rattle.ir_model.specs.Layout.{Extent, align_of, extent_of, extent_or, field_offset, field_offset_from, no_fields, rounded_up, size_of, with_field}
use Rattle.ir_model.specs.Ty.{Ty, Tys, field, none, to_tys}
use Rattle.ir_model.specs.declared.module.Module.{Module}
use Rattle.ir_sizes.specs.Cut.{capped, cut_up}

-- ---- numbers

either : (s m : ℕ) → (s ≤ m) ⊎ (m ≤ s)
either zero m = inl (omega arith)
either (suc s) zero = inr (omega arith)
either (suc s) (suc m) = elim (either s m) [ inl h ↦ inl (omega arith) | inr h ↦ inr (omega arith) ]

up-ge : (n a : ℕ) → n ≤ rounded_up n (suc a)
up-ge n a = omega arith

up-by : (n a : ℕ) → (n ≤ 2 ^ 64 - 1) ⊎ (2 ^ 64 - 1 ≤ n) → cut_up (capped n) a ≡ cut_up n a
up-by n zero h = ap capped (up-zero (capped n) ∙ sym (up-zero n))
  where
    up-zero : (m : ℕ) → rounded_up m 0 ≡ 0
    up-zero m = omega arith
up-by n (suc a) h =
    elim h [
      | inl le ↦ let e : capped n ≡ n = omega arith in ap (λ (x : ℕ). cut_up x (suc a)) e
      | inr ge ↦ let e : capped n ≡ 2 ^ 64 - 1 = omega arith in omega (arith, up-ge n a, up-ge (capped n) a)
    ]

capped-up : (n a : ℕ) → cut_up (capped n) a ≡ cut_up n a
capped-up n a = up-by n a (either n (2 ^ 64 - 1))

capped-plus : (m n : ℕ) → capped (capped m + capped n) ≡ capped (m + n)
capped-plus m n = omega arith

-- ---- offsets

abbrev pub next_end : Module → ℕ → Ty → ℕ
next_end m end t = capped (cut_up end (align_of m t) + capped (size_of m t))

-- the offset of the field i, where the fields before it end there
abbrev pub cut_offset : Module → ℕ → Tys → ℕ → ℕ
cut_offset m end none i = end
cut_offset m end (field t ts) zero = cut_up end (align_of m t)
cut_offset m end (field t ts) (suc i) = cut_offset m (next_end m end t) ts i

end_cut : (m : Module) (e : Extent) (t : Ty) → next_end m (capped e.size) t ≡ capped (with_field e (extent_or (extent_of m.types t))).size
end_cut m e t =
    ap (λ (s : ℕ). capped (s + capped (size_of m t))) (capped-up e.size (align_of m t))
    ∙ capped-plus (rounded_up e.size (align_of m t)) (size_of m t)

offset_cut : (m : Module) (e : Extent) (ts : Tys) (i : ℕ) → cut_offset m (capped e.size) ts i ≡ capped (field_offset_from m e ts i)
offset_cut m e none i = refl
offset_cut m e (field t ts) zero = capped-up e.size (align_of m t)
offset_cut m e (field t ts) (suc i) =
    ap (λ (s : ℕ). cut_offset m s ts i) (end_cut m e t) ∙ offset_cut m (with_field e (extent_or (extent_of m.types t))) ts i

pub whole_offset : (m : Module) (ts : Tys) (i all : ℕ) → all ≡ cut_offset m 0 ts i → all ≡ capped (field_offset m ts i)
whole_offset m ts i all e = e ∙ offset_cut m no_fields ts i

-- ---- one field further

nonzero : (n : ℕ) → (n ≡ 0 → ⊥) → n ≡ suc (n - 1)
nonzero zero h = absurd (h refl)
nonzero (suc n) h = omega arith

pub offset_here : (m : Module) (ts : List Ty) (k : ℕ) (t : Ty) (end left align start all : ℕ) → k < length ts → t ≡ get_or ts k t → left ≡ 0 → align ≡ align_of m t → start ≡ cut_up end align → cut_offset m end (to_tys (drop k ts)) left ≡ all → start ≡ all
offset_here m ts k t end left align start all lt is z ea es inv =
    es
    ∙ ap (cut_up end) ea
    ∙ sym (ap (λ n. cut_offset m end (to_tys (drop k ts)) n) z ∙ ap (λ l. cut_offset m end (to_tys l) 0) (drop-cons ts k t lt) ∙ ap (λ u. cut_up end (align_of m u)) (sym is))
    ∙ inv

pub end_next : (m : Module) (t : Ty) (end align size start next : ℕ) → align ≡ align_of m t → size ≡ capped (size_of m t) → start ≡ cut_up end align → next ≡ capped (start + size) → next ≡ next_end m end t
end_next m t end align size start next ea ez es en =
    en
    ∙ ap (λ (s : ℕ). capped (s + size)) (es ∙ ap (cut_up end) ea)
    ∙ ap (λ (s : ℕ). capped (cut_up end (align_of m t) + s)) ez

pub offset_next : (m : Module) (ts : List Ty) (k : ℕ) (t : Ty) (end left next all : ℕ) → k < length ts → t ≡ get_or ts k t → (left ≡ 0 → ⊥) → next ≡ next_end m end t → cut_offset m end (to_tys (drop k ts)) left ≡ all → cut_offset m next (to_tys (drop (k + 1) ts)) (left - 1) ≡ all
offset_next m ts k t end left next all lt is z en inv =
    ap (λ s. cut_offset m s (to_tys (drop (k + 1) ts)) (left - 1)) (en ∙ ap (next_end m end) is)
    ∙ ap (λ (j : ℕ). cut_offset m (next_end m end (get_or ts k t)) (to_tys (drop j ts)) (left - 1)) (add-one k)
    ∙ sym (ap (λ n. cut_offset m end (to_tys (drop k ts)) n) (nonzero left z) ∙ ap (λ l. cut_offset m end (to_tys l) (suc (left - 1))) (drop-cons ts k t lt))
    ∙ inv

drop_all : {A : Type 0} (xs : List A) → drop (length xs) xs ≡ []
drop_all [] = refl
drop_all (x ∷ xs) = drop_all xs

pub offset_last : (m : Module) (ts : List Ty) (k end left all : ℕ) → k ≡ length ts → cut_offset m end (to_tys (drop k ts)) left ≡ all → end ≡ all
offset_last m ts k end left all e inv =
    sym (ap (λ (j : ℕ). cut_offset m end (to_tys (drop j ts)) left) e ∙ ap (λ l. cut_offset m end (to_tys l) left) (drop_all ts)) ∙ inv
