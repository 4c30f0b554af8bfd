-- What the tables of a shape tell: some listed test has it, and the first one does where all agree.
use Rattle.std.proofs.Common.{◌≡◌, inl, inr, ℕ, Bool, true, false, List, [], ◌∷◌, refl, sym, ap, ◌∙◌}
use Rattle.std.proofs.lemmas.Bool.{false≢true}
use Rattle.std.specs.Prelude.{None, Option, Some, if◌then◌else◌, ◌&&◌, ◌||◌, ◌==◌}
use Rattle.pass_elide_ready.specs.Form.{Freeing, beside_of, has_both, passed_by, passed_of, tested_of, tests_of}
use Rattle.pass_elide_edges.specs.pass_elide_proof.pass_proofs.flow_solver.Paths.{IsListed}
use Rattle.pass_elide_edges.specs.pass_elide_proof.pass_proofs.ir_model.declared.module.Function.{Function}

-- ---- tables by a test of each element

abbrev pub first_of : {A : Type 0} (test : Freeing → Bool) (value : Freeing → A) → List Freeing → Option A
first_of test value [] = None
first_of test value (q ∷ qs) = if test q then Some (value q) else first_of test value qs

pub record IsFound {A : Type 0} (test : Freeing → Bool) (value : Freeing → A) (qs : List Freeing) (y : A) : Type 0
  where
    pub element : Freeing
    pub listed : IsListed element qs
    pub passes : test element ≡ true
    pub value_is : value element ≡ y

pub found : {A : Type 0} (test : Freeing → Bool) (value : Freeing → A) (qs : List Freeing) (y : A)
    → first_of test value qs ≡ Some y → IsFound test value qs y
found test value [] y e = absurd (cc)
found test value (q ∷ qs) y e = on (test q) refl e (found test value qs y)
  where
    on : (b : Bool) → test q ≡ b → (if b then Some (value q) else first_of test value qs) ≡ Some y
        → (first_of test value qs ≡ Some y → IsFound test value qs y) → IsFound test value (q ∷ qs) y
    on true d h again =
        let same : value q ≡ y = cc in
        record { element = q; listed = inl refl; passes = d; value_is = same }
    on false d h again =
        let x = again h in
        record { element = x.element; listed = inr x.listed; passes = x.passes; value_is = x.value_is }

-- where all that pass have one value it is that
pub told : {A : Type 0} (test : Freeing → Bool) (value : Freeing → A) (qs : List Freeing) (y : A) (q : Freeing)
    → IsListed q qs → test q ≡ true
    → ((p : Freeing) → IsListed p qs → test p ≡ true → value p ≡ y) → first_of test value qs ≡ Some y
told test value [] y q l h all = absurd l
told test value (p ∷ qs) y q l h all =
    on (test p) refl (λ n. told test value qs y q n h (λ z o t. all z (inr o) t))
  where
    later : IsListed q (p ∷ qs) → test p ≡ false → IsListed q qs
    later (inl e) d = absurd (false≢true (sym d ∙ ap test (sym e) ∙ h))
    later (inr n) d = n

    on : (b : Bool) → test p ≡ b → (IsListed q qs → first_of test value qs ≡ Some y)
        → first_of test value (p ∷ qs) ≡ Some y
    on true d again = ap (λ (b : Bool). if b then Some (value p) else first_of test value qs) d
        ∙ ap Some (all p (inl refl) d)
    on false d again = ap (λ (b : Bool). if b then Some (value p) else first_of test value qs) d
        ∙ again (later l d)

-- none passes
pub nothing : {A : Type 0} (test : Freeing → Bool) (value : Freeing → A) (qs : List Freeing)
    → ((p : Freeing) → IsListed p qs → test p ≡ false) → first_of test value qs ≡ None
nothing test value [] all = refl
nothing test value (p ∷ qs) all =
    ap (λ (b : Bool). if b then Some (value p) else first_of test value qs) (all p (inl refl))
    ∙ nothing test value qs (λ z n. all z (inr n))

-- ---- the tables of a shape are such

pub tests_are : (qs : List Freeing) (b : ℕ) → tests_of qs b ≡ first_of (λ q. q.frees == b) (λ q. q.tests) qs
tests_are [] b = refl
tests_are (q ∷ qs) b = ap (λ (o : Option ℕ). if q.frees == b then Some q.tests else o) (tests_are qs b)

pub beside_is : (qs : List Freeing) (b : ℕ)
    → beside_of qs b ≡ first_of (λ q. (q.after == b) && has_both q) (λ q. q.beside) qs
beside_is [] b = refl
beside_is (q ∷ qs) b =
    ap (λ (o : Option ℕ). if (q.after == b) && has_both q then Some q.beside else o) (beside_is qs b)

pub tested_is : (qs : List Freeing) (v : ℕ) → tested_of qs v ≡ first_of (λ q. q.tested == v) (λ q. q.is_eq) qs
tested_is [] v = refl
tested_is (q ∷ qs) v = ap (λ (o : Option Bool). if q.tested == v then Some q.is_eq else o) (tested_is qs v)

pub passed_there : (f : Function) (qs : List Freeing) (v : ℕ) (q : Freeing) → IsListed q qs
    → passed_by f q v ≡ true → passed_of f qs v ≡ true
passed_there f [] v q l h = absurd l
passed_there f (p ∷ qs) v q (inl e) h =
    ap (λ (b : Bool). b || passed_of f qs v) (ap (λ (z : Freeing). passed_by f z v) (sym e) ∙ h)
passed_there f (p ∷ qs) v q (inr n) h = later (passed_by f p v) (passed_there f qs v q n h)
  where
    later : (b : Bool) → passed_of f qs v ≡ true → (b || passed_of f qs v) ≡ true
    later true r = refl
    later false r = r
