-- Where one element of a list passes a test, or two do.
use Rattle.std.proofs.Common.{◌≡◌, ◌≢◌, ◌⊎◌, inl, inr, ◌+◌, ℕ, zero, suc, Bool, true, false, List, [], ◌∷◌, refl, sym, ap, ◌∙◌, arith}
use Rattle.std.proofs.lemmas.Bool.{false≢true}
use Rattle.std.specs.Prelude.{Some, cond, count_by, find, slice_get}
use Rattle.pass_elide_edges.proofs.pass_elide_proof.pass_proofs.ir_laws.facts.Lists.{count_cons}
use Rattle.pass_elide_edges.specs.pass_elide_proof.pass_proofs.flow_solver.Paths.{IsListed}

module _ {A : Type 0} (test : A → Bool) where
  none_counted : (xs : List A) → count_by test xs ≡ 0 → (x : A) → IsListed x xs → test x ≡ true → ⊥
  none_counted [] e x l t = l
  none_counted (y ∷ xs) e x l t =
      on (test y) refl (sym (count_cons test y xs) ∙ e) l (λ less n. none_counted xs less x n t)
    where
      on : (b : Bool) → test y ≡ b → cond b 1 0 + count_by test xs ≡ 0 → (x ≡ y) ⊎ IsListed x xs
          → (count_by test xs ≡ 0 → IsListed x xs → ⊥) → ⊥
      on true d h m again = omega (arith, h)
      on false d h (inl s) again = false≢true (sym d ∙ ap test (sym s) ∙ t)
      on false d h (inr n) again = again (omega (arith, h)) n

  pub one_counted : (xs : List A) → count_by test xs ≡ 1 → (x y : A) → IsListed x xs → test x ≡ true → IsListed y xs
      → test y ≡ true → x ≡ y
  one_counted [] e x y l t m u = absurd l
  one_counted (z ∷ xs) e x y l t m u =
      on (test z) refl (sym (count_cons test z xs) ∙ e) l m (λ less n o. one_counted xs less x y n t o u)
    where
      on : (b : Bool) → test z ≡ b → cond b 1 0 + count_by test xs ≡ 1 → (x ≡ z) ⊎ IsListed x xs
          → (y ≡ z) ⊎ IsListed y xs → (count_by test xs ≡ 1 → IsListed x xs → IsListed y xs → x ≡ y) → x ≡ y
      on true d h (inl s) (inl r) again = s ∙ sym r
      on true d h (inr n) r again =
          let less : count_by test xs ≡ 0 = omega (arith, h) in absurd (none_counted xs less x n t)
      on true d h (inl s) (inr n) again =
          let less : count_by test xs ≡ 0 = omega (arith, h) in absurd (none_counted xs less y n u)
      on false d h (inl s) r again = absurd (false≢true (sym d ∙ ap test (sym s) ∙ t))
      on false d h (inr n) (inl s) again = absurd (false≢true (sym d ∙ ap test (sym s) ∙ u))
      on false d h (inr n) (inr o) again = again (omega (arith, h)) n o

  pub two_counted : (xs : List A) → count_by test xs ≡ 2 → (x y z : A) → x ≢ y → IsListed x xs → test x ≡ true
      → IsListed y xs → test y ≡ true → IsListed z xs → test z ≡ true → (z ≡ x) ⊎ (z ≡ y)
  two_counted [] e x y z ne l t m u n v = absurd l
  two_counted (w ∷ xs) e x y z ne l t m u n v =
      on (test w) refl (sym (count_cons test w xs) ∙ e) l m n
      (λ less s r q. two_counted xs less x y z ne s t r u q v)
    where
      on : (b : Bool) → test w ≡ b → cond b 1 0 + count_by test xs ≡ 2 → (x ≡ w) ⊎ IsListed x xs
          → (y ≡ w) ⊎ IsListed y xs → (z ≡ w) ⊎ IsListed z xs
          → (count_by test xs ≡ 2 → IsListed x xs → IsListed y xs → IsListed z xs → (z ≡ x) ⊎ (z ≡ y))
          → (z ≡ x) ⊎ (z ≡ y)
      on true d h (inl s) (inl r) q again = absurd (ne (s ∙ sym r))
      on true d h (inl s) (inr r) (inl q) again = inl (q ∙ sym s)
      on true d h (inl s) (inr r) (inr q) again =
          let less : count_by test xs ≡ 1 = omega (arith, h) in inr (one_counted xs less z y q v r u)
      on true d h (inr s) (inl r) (inl q) again = inr (q ∙ sym r)
      on true d h (inr s) (inl r) (inr q) again =
          let less : count_by test xs ≡ 1 = omega (arith, h) in inl (one_counted xs less z x q v s t)
      on true d h (inr s) (inr r) q again =
          let less : count_by test xs ≡ 1 = omega (arith, h) in absurd (ne (one_counted xs less x y s t r u))
      on false d h (inl s) r q again = absurd (false≢true (sym d ∙ ap test (sym s) ∙ t))
      on false d h (inr s) (inl r) q again = absurd (false≢true (sym d ∙ ap test (sym r) ∙ u))
      on false d h (inr s) (inr r) (inl q) again = absurd (false≢true (sym d ∙ ap test (sym q) ∙ v))
      on false d h (inr s) (inr r) (inr q) again = again (omega (arith, h)) s r q

  -- the one that is found where one passes
  pub record IsTheOne (xs : List A) (x : A) : Type 0 where
    pub at : ℕ
    pub there : slice_get xs at ≡ Some x
    pub passes : test x ≡ true
    pub others : (k : ℕ) (y : A) → slice_get xs k ≡ Some y → test y ≡ true → k ≡ at

  slice_listed : (xs : List A) (k : ℕ) (x : A) → slice_get xs k ≡ Some x → IsListed x xs
  slice_listed [] k x e = absurd (cc)
  slice_listed (y ∷ xs) zero x e = let same : y ≡ x = cc in inl (sym same)
  slice_listed (y ∷ xs) (suc k) x e = inr (slice_listed xs k x e)

  pub the_one : (xs : List A) (x : A) → count_by test xs ≡ 1 → find test xs ≡ Some x → IsTheOne xs x
  the_one [] x e h = absurd (cc)
  the_one (y ∷ xs) x e h =
      on (test y) refl (sym (count_cons test y xs) ∙ e) h (λ less f. the_one xs x less f)
    where
      on : (b : Bool) → test y ≡ b → cond b 1 0 + count_by test xs ≡ 1 → cond b (Some y) (find test xs) ≡ Some x
          → (count_by test xs ≡ 1 → find test xs ≡ Some x → IsTheOne xs x) → IsTheOne (y ∷ xs) x
      on true d c f again =
          let same : y ≡ x = cc in
          let less : count_by test xs ≡ 0 = omega (arith, c) in
          record { at = 0; there = ap Some same; passes = ap test (sym same) ∙ d; others = first less }
        where
          first : count_by test xs ≡ 0 → (k : ℕ) (z : A) → slice_get (y ∷ xs) k ≡ Some z → test z ≡ true → k ≡ 0
          first less zero z got t = refl
          first less (suc k) z got t = absurd (none_counted xs less z (slice_listed xs k z got) t)
      on false d c f again =
          let r = again (omega (arith, c)) f in
          record { at = suc r.at; there = r.there; passes = r.passes; others = later r.at r.others }
        where
          later : (at : ℕ) → ((k : ℕ) (z : A) → slice_get xs k ≡ Some z → test z ≡ true → k ≡ at) → (k : ℕ) (z : A)
              → slice_get (y ∷ xs) k ≡ Some z → test z ≡ true → k ≡ suc at
          later at all zero z got t = let same : y ≡ z = cc in absurd (false≢true (sym d ∙ ap test same ∙ t))
          later at all (suc k) z got t = ap suc (all k z got t)
