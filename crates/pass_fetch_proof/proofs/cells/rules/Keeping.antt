-- The values that are kept, and the place of each: every one has the place at which it stands.
use Rattle.std.proofs.Common.{◌≡◌, ◌⊎◌, inl, inr, ⊎_elim, ℕ, zero, suc, ◌<◌, Bool, true, false, List, [], ◌∷◌, ◌++◌, length, refl, sym, ap, ◌∙◌, subst, arith}
use Rattle.std.specs.Prelude.{Option, Some, None, replicate, slice_get, slice_set, if◌then◌else◌}
use Rattle.pass_edges_proof.proofs.ir_laws.facts.Lists.{get_before, get_last, get_within, set_here, set_length, set_other}
use Rattle.pass_edges_proof.specs.flow_solver.Paths.{IsListed}
use Rattle.pass_edges_proof.specs.pass_cells.Kept.{entry, is_new, is_untold, joined, keeping_of, with_value, with_values}
use Rattle.pass_edges_proof.specs.pass_cells.declared.keeping.Keeping.{Keeping}
use Rattle.pass_edges_proof.proofs.ir_laws.facts.Truth.{either}

-- of so many names; P holds of each value
pub record IsKeeping (count : ℕ) (P : ℕ → Type 0) (k : Keeping) : Type 0 where
  pub long : length k.places ≡ count
  pub there : (v at : ℕ) → entry k.places v ≡ Some at → slice_get k.values at ≡ Some v
  pub back : (v at : ℕ) → slice_get k.values at ≡ Some v → entry k.places v ≡ Some at
  pub holds : (v at : ℕ) → slice_get k.values at ≡ Some v → P v

-- what stands in a list with one element more behind it
last_or : (xs : List ℕ) (x v at : ℕ) → slice_get (xs ++ x ∷ []) at ≡ Some v → (slice_get xs at ≡ Some v) ⊎ ((at ≡ length xs) × (v ≡ x))
last_or [] x v zero e = let same : v ≡ x = cc in inr (refl, same)
last_or [] x v (suc at) e = absurd (cc)
last_or (y ∷ xs) x v zero e = inl e
last_or (y ∷ xs) x v (suc at) e = ⊎_elim (λ a. inl a) (λ b. inr (ap suc b.0, b.1)) (last_or xs x v at e)

untold_is : (o : Option (Option ℕ)) → is_untold o ≡ true → o ≡ Some None
untold_is None h = absurd (cc)
untold_is (Some None) h = refl
untold_is (Some (Some n)) h = absurd (cc)

told_in : (places : List (Option ℕ)) (v at : ℕ) → slice_get places v ≡ Some (Some at) → entry places v ≡ Some at
told_in places v at e = ap joined e

-- the places with that of a value behind the others
abbrev places_with : Keeping → ℕ → List (Option ℕ)
places_with k v = slice_set k.places v (Some (length k.values))

module _ (count : ℕ) (P : ℕ → Type 0) where
  one_more : (k : Keeping) (v : ℕ) → IsKeeping count P k → slice_get k.places v ≡ Some None → P v → IsKeeping count P (record { values = k.values ++ v ∷ []; places = slice_set k.places v (Some (length k.values)) })
  one_more k v h untold p =
      record {
        long = set_length k.places v (Some (length k.values)) ∙ h.long;
        there = λ u at e. ⊎_elim (there_same u at e) (there_other u at e) (either v u);
        back = λ u at e. ⊎_elim (back_old u at) (back_new u at) (last_or k.values v u at e);
        holds = λ u at e. ⊎_elim (λ old. h.holds u at old) (λ b. subst P (sym b.1) p) (last_or k.values v u at e);
      }
    where
      at_v : entry (places_with k v) v ≡ Some (length k.values)
      at_v = ap joined (set_here k.places v (Some (length k.values)) (get_within k.places v None untold))

      at_other : (u : ℕ) → (v ≡ u → ⊥) → entry (places_with k v) u ≡ entry k.places u
      at_other u ne = ap joined (set_other k.places v u (Some (length k.values)) ne)

      there_same : (u at : ℕ) → entry (places_with k v) u ≡ Some at → v ≡ u → slice_get (k.values ++ v ∷ []) at ≡ Some u
      there_same u at e same =
          let both : Some (length k.values) ≡ Some at = sym at_v ∙ ap (entry (places_with k v)) same ∙ e in
          let where_is : length k.values ≡ at = cc in
          subst (λ (n : ℕ). slice_get (k.values ++ v ∷ []) n ≡ Some u) where_is (get_last k.values v ∙ ap (λ (n : ℕ). Some n) same)

      there_other : (u at : ℕ) → entry (places_with k v) u ≡ Some at → (v ≡ u → ⊥) → slice_get (k.values ++ v ∷ []) at ≡ Some u
      there_other u at e ne = get_before k.values (v ∷ []) at u (h.there u at (sym (at_other u ne) ∙ e))

      back_old : (u at : ℕ) → slice_get k.values at ≡ Some u → entry (places_with k v) u ≡ Some at
      back_old u at old = ⊎_elim (λ same. absurd (taken u at old same)) (λ ne. at_other u ne ∙ h.back u at old) (either v u)
        where
          taken : (u at : ℕ) → slice_get k.values at ≡ Some u → v ≡ u → ⊥
          taken u at old same = let both : None ≡ Some at = sym (ap joined untold) ∙ ap (entry k.places) same ∙ h.back u at old in absurd (cc)

      back_new : (u at : ℕ) → (at ≡ length k.values) × (u ≡ v) → entry (places_with k v) u ≡ Some at
      back_new u at b = ap (entry (places_with k v)) b.1 ∙ at_v ∙ ap (λ (n : ℕ). Some n) (sym b.0)

  value_more : (k : Keeping) (v : ℕ) → IsKeeping count P k → P v → IsKeeping count P (with_value k v)
  value_more k v h p = on (is_new k.places v) refl
    where
      on : (b : Bool) → is_new k.places v ≡ b → IsKeeping count P (if b then record { values = k.values ++ v ∷ []; places = slice_set k.places v (Some (length k.values)) } else k)
      on true e = one_more k v h (untold_is (slice_get k.places v) e) p
      on false e = h

  values_more : (k : Keeping) (ps : List (ℕ × ℕ)) → IsKeeping count P k → ((p : ℕ × ℕ) → IsListed p ps → P p.0) → IsKeeping count P (with_values k ps)
  values_more k [] h holds = h
  values_more k (p ∷ ps) h holds = values_more (with_value k p.0) ps (value_more k p.0 h (holds p (inl refl))) (λ q l. holds q (inr l))

  length_of : (n : ℕ) → length (replicate {A = Option ℕ} n None) ≡ n
  length_of zero = refl
  length_of (suc n) = ap suc (length_of n)

  none_told : (n v : ℕ) → entry (replicate n None) v ≡ None
  none_told zero v = refl
  none_told (suc n) zero = refl
  none_told (suc n) (suc v) = none_told n v

  pub keeping_is : (crossing : List (ℕ × ℕ)) → ((p : ℕ × ℕ) → IsListed p crossing → P p.0) → IsKeeping count P (keeping_of count crossing)
  keeping_is crossing holds =
      values_more (record { values = []; places = replicate count None }) crossing
      (record {
        long = length_of count;
        there = λ v at e. let both : None ≡ Some at = sym (none_told count v) ∙ e in absurd (cc);
        back = λ v at e. absurd (cc);
        holds = λ v at e. absurd (cc);
      })
      holds

  -- a value with a place is a name of the function
  pub place_within : (k : Keeping) (v at : ℕ) → IsKeeping count P k → entry k.places v ≡ Some at → v < count
  place_within k v at h e = on (slice_get k.places v) refl e
    where
      on : (o : Option (Option ℕ)) → slice_get k.places v ≡ o → joined o ≡ Some at → v < count
      on None d j = absurd (cc)
      on (Some x) d j = let lt : v < length k.places = get_within k.places v x d in let long : length k.places ≡ count = h.long in omega (arith, lt, long)
