-- What the last instance is that passes a test.
use Rattle.std.proofs.Common.{◌≡◌, ◌+◌, ℕ, suc, Bool, true, false, List, [], ◌∷◌, refl, sym, ap, ◌∙◌, subst, arith, if◌then◌else◌, ◌==◌}
use Rattle.std.specs.Prelude.{None, Option, Some, option_and_then, option_map, slice_get}
use Rattle.pass_proofs.proofs.ir_laws.facts.Truth.{both_true, equal_numbers}
use Rattle.pass_proofs.specs.run_source.State.{began_at, last_from, last_where, numbered, or_else}
use Rattle.pass_proofs.specs.run_source.declared.state.Instance.{Instance}

-- the number is one of the list, counted from a number on
pub record IsFoundFrom (test : Instance → Bool) (k : ℕ) (xs : List Instance) (j : ℕ) : Type 0 where
  pub at : ℕ
  pub instance : Instance
  pub number : j ≡ k + at
  pub there : slice_get xs at ≡ Some instance
  pub passes : test instance ≡ true

same_number : {a b : ℕ} → Some a ≡ Some b → a ≡ b
same_number z = cc

pub found_from : (test : Instance → Bool) (k : ℕ) (xs : List Instance) (j : ℕ) → last_from test k xs ≡ Some j
    → IsFoundFrom test k xs j
found_from test k [] j e = absurd (cc)
found_from test k (x ∷ xs) j e = on (λ i h. found_from test (suc k) xs i h) (last_from test (suc k) xs) refl e
  where
    here : (u : Bool) → test x ≡ u → (if u then Some k else None) ≡ Some j → IsFoundFrom test k (x ∷ xs) j
    here true h q =
        let same : k ≡ j = same_number q in
        record { at = 0; instance = x; number = omega (arith, same); there = refl; passes = h }
    here false h q = absurd (cc)

    on : ((i : ℕ) → last_from test (suc k) xs ≡ Some i → IsFoundFrom test (suc k) xs i) → (o : Option ℕ)
        → last_from test (suc k) xs ≡ o → or_else o (if test x then Some k else None) ≡ Some j
        → IsFoundFrom test k (x ∷ xs) j
    on later None h q = here (test x) refl q
    on later (Some i) h q =
        let r = later i h in
        let same : i ≡ j = same_number q in
        let number = r.number in
        record {
          at = suc r.at;
          instance = r.instance;
          number = omega (arith, same, number);
          there = r.there;
          passes = r.passes;
        }

pair_is : (p q : ℕ × Instance) → Some p ≡ Some q → p ≡ q
pair_is p q e = cc

pub found_there : (test : Instance → Bool) (xs : List Instance) (p : ℕ × Instance) → last_where test xs ≡ Some p
    → (slice_get xs p.0 ≡ Some p.1) × (test p.1 ≡ true)
found_there test xs p e = on (last_from test 0 xs) refl
  where
    on : (o : Option ℕ) → last_from test 0 xs ≡ o → (slice_get xs p.0 ≡ Some p.1) × (test p.1 ≡ true)
    on None h = let c : None ≡ Some p = ap (option_and_then (numbered xs)) (sym h) ∙ e in absurd (cc)
    on (Some j) h =
        let r = found_from test 0 xs j h in
        let number = r.number in
        let same : r.at ≡ j = omega (arith, number) in
        let there : slice_get xs j ≡ Some r.instance = ap (slice_get xs) (sym same) ∙ r.there in
        let at : numbered xs j ≡ Some (j, r.instance) = ap (option_map {U = ℕ × Instance} (λ x. (j, x))) there in
        let is : (j, r.instance) ≡ p
        = pair_is (j, r.instance) p (sym at ∙ ap (option_and_then (numbered xs)) (sym h) ∙ e) in
        subst (λ (z : ℕ × Instance). (slice_get xs z.0 ≡ Some z.1) × (test z.1 ≡ true)) is (there, r.passes)

-- the last that began at an offset of a block is in that block
pub began_in : (block offset : ℕ) (x : Instance) → began_at block offset x ≡ true → x.block ≡ block
began_in block offset x h = equal_numbers x.block block (both_true (x.block == block) (x.start == offset) h).0
