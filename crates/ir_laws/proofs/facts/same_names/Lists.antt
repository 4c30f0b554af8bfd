-- Lemmas on lists, that speak of no pass.
use Rattle.std.proofs.Common.{◌≡◌, ℕ, zero, suc, Bool, true, false, List, [], ◌∷◌, refl, sym, ap, ◌∙◌, subst, Option, Some, None}
use Rattle.std.specs.Prelude.{option_map, slice_get, if◌then◌else◌}
use Rattle.run_laws.specs.ir_base.declared.name.Name.{Name}
use Rattle.run_laws.specs.ir_model.Names.{first_where, same_name}
use Rattle.ir_laws.proofs.facts.Truth.{differ, same_name-itself}
use Rattle.ir_laws.proofs.facts.Lists.{AreDistinct}

-- a distinct name is found where it stands
pub found : (xs : List Name) → AreDistinct xs → (k : ℕ) (x : Name) → slice_get xs k ≡ Some x → first_where (λ y. same_name y x) xs ≡ Some k
found [] h k x e = absurd (cc)
found (y ∷ xs) h zero x e = let is_one : y ≡ x = cc in ap (λ (b : Bool). if b then Some 0 else option_map suc (first_where (λ z. same_name z x) xs)) (ap (λ (z : Name). same_name z x) is_one ∙ same_name-itself x)
found (y ∷ xs) h (suc k) x e =
    let other : (y ≡ x) → ⊥ = λ same. h.0 (record { at = k; is = e ∙ ap Some (sym same) }) in
    ap (λ (b : Bool). if b then Some 0 else option_map suc (first_where (λ z. same_name z x) xs)) (differ y x other)
    ∙ ap (option_map suc) (found xs h.1 k x e)

-- ---- what is found

-- where something is found, it stands and passes the test
pub record IsFound {A : Type 0} (test : A → Bool) (xs : List A) (k : ℕ) : Type 0 where
  pub element : A
  pub stands : slice_get xs k ≡ Some element
  pub passes : test element ≡ true

pub what_is_found : {A : Type 0} (test : A → Bool) (xs : List A) (k : ℕ) → first_where test xs ≡ Some k → IsFound test xs k
what_is_found test [] k e = absurd (cc)
what_is_found test (x ∷ xs) k e = on (test x) refl (λ j h. what_is_found test xs j h) e
  where
    later : (o : Option ℕ) → first_where test xs ≡ o → ((j : ℕ) → first_where test xs ≡ Some j → IsFound test xs j) → option_map suc o ≡ Some k → IsFound test (x ∷ xs) k
    later None h again d = absurd (cc)
    later (Some j) h again d =
        let same : suc j ≡ k = cc in
        let more = again j h in
        subst (IsFound test (x ∷ xs)) same (record { element = more.element; stands = more.stands; passes = more.passes })

    on : (b : Bool) → test x ≡ b → ((j : ℕ) → first_where test xs ≡ Some j → IsFound test xs j) → (if b then Some 0 else option_map suc (first_where test xs)) ≡ Some k → IsFound test (x ∷ xs) k
    on true h again d = let same : 0 ≡ k = cc in subst (IsFound test (x ∷ xs)) same (record { element = x; stands = refl; passes = h })
    on false h again d = later (first_where test xs) refl again d
