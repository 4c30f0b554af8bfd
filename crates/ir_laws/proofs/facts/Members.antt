-- What holds of each member of a list, and what is among them.
use Rattle.std.proofs.Common.{◌≡◌, ℕ, suc, List, [], ◌∷◌, refl, zero, subst, ◌++◌, Bool, true, false, ◌+◌, sym, ap, ◌∙◌, arith}
use Rattle.run_laws.specs.changed.Changed.{Each}
use Rattle.std.specs.Prelude.{Some, slice_get, map, if◌then◌else◌, ◌||◌, filter, slice_set}
use Rattle.run_laws.specs.ir_model.declared.instr.Instr.{Instr}
use Rattle.ir_laws.proofs.facts.Options.{IsPassing}
use Rattle.ir_laws.proofs.facts.Lists.{places, AreDifferent}
use Rattle.std.specs.List.{list_any, list_all}
use Rattle.ir_laws.proofs.facts.Truth.{both_true, and_first, and_second, and_both, same_name-itself as itself}
use Rattle.run_laws.specs.ir_base.declared.name.Name.{Name}
use Rattle.ir_tables.proofs.Tables.{same_name-same}
use Rattle.ir_laws.specs.facts.names_apart.Apart.{AreApart}
use Rattle.run_laws.specs.ir_model.Names.{same_name}
use Rattle.text_names.specs.Spelling.{IsName}

-- P holds of each element where it holds of what stands at each position
pub each_there : {A : Type 0} (P : A → Type 0) (xs : List A) → ((n : ℕ) (x : A) → slice_get xs n ≡ Some x → P x) → Each P xs
each_there P [] h = tt
each_there P (x ∷ xs) h = (h 0 x refl, each_there P xs (λ n y e. h (suc n) y e))

pub at_each : {A : Type 0} (P : A → Type 0) (xs : List A) (n : ℕ) (x : A) → Each P xs → slice_get xs n ≡ Some x → P x
at_each P [] n x h e = absurd (cc)
at_each P (y ∷ xs) zero x h e = let s : y ≡ x = cc in subst P s h.0
at_each P (y ∷ xs) (suc n) x h e = at_each P xs n x h.1 e

pub each_behind : {A : Type 0} (P : A → Type 0) (xs ys : List A) → Each P xs → Each P ys → Each P (xs ++ ys)
each_behind P [] ys h k = k
each_behind P (x ∷ xs) ys h k = (h.0, each_behind P xs ys h.1 k)

pub each_unit : (is : List Instr) → Each (λ (i : Instr). Unit {0}) is
each_unit [] = tt
each_unit (i ∷ is) = (tt, each_unit is)

-- ---- what passes a test stands where it is found

pub each_map : {A B : Type 0} (P : B → Type 0) (f : A → B) (xs : List A) → Each (λ x. P (f x)) xs → Each P (map f xs)
each_map P f [] h = tt
each_map P f (x ∷ xs) h = (h.0, each_map P f xs h.1)

pub passing_places : (test : Instr → Bool) (is : List Instr) → Each (λ k. IsPassing test (slice_get is k)) (places test is)
passing_places test [] = tt
passing_places test (i ∷ is) = on (test i) refl (each_map (λ k. IsPassing test (slice_get (i ∷ is) k)) suc (places test is) (passing_places test is))
  where
    on : (b : Bool) → test i ≡ b → Each (λ k. IsPassing test (slice_get (i ∷ is) k)) (map suc (places test is)) → Each (λ k. IsPassing test (slice_get (i ∷ is) k)) (if b then 0 ∷ map suc (places test is) else map suc (places test is))
    on true e rest = (record { instr = i; is = refl; passes = e }, rest)
    on false e rest = rest

pub any_same : {A : Type 0} (P : A → Type 0) (t u : A → Bool) → ((x : A) → P x → t x ≡ u x) → (xs : List A) → Each P xs → list_any t xs ≡ list_any u xs
any_same P t u h [] k = refl
any_same P t u h (x ∷ xs) k =
    let first = h x k.0 in
    let rest = any_same P t u h xs k.1 in
    λ i. first i || rest i

pub each_joined : {A : Type 0} (P : A → Type 0) (xs ys : List A) → Each P xs → Each P ys → Each P (xs ++ ys)
each_joined P [] ys h k = k
each_joined P (x ∷ xs) ys h k = (h.0, each_joined P xs ys h.1 k)

-- ---- lists

pub each_left : {A : Type 0} (P : A → Type 0) (xs ys : List A) → Each P (xs ++ ys) → Each P xs
each_left P [] ys h = tt
each_left P (x ∷ xs) ys h = (h.0, each_left P xs ys h.1)

pub each_right : {A : Type 0} (P : A → Type 0) (xs ys : List A) → Each P (xs ++ ys) → Each P ys
each_right P [] ys h = h
each_right P (x ∷ xs) ys h = each_right P xs ys h.1

-- P holds of each element by its position
pub each_by : {A : Type 0} (P : A → Type 0) (xs : List A) → ((k : ℕ) (x : A) → slice_get xs k ≡ Some x → P x) → Each P xs
each_by P [] h = tt
each_by P (x ∷ xs) h = (h 0 x refl, each_by P xs (λ k y e. h (suc k) y e))

pub each_known : (t : ℕ → Bool) (P : ℕ → Type 0) → ((n : ℕ) → t n ≡ true → P n) → (ns : List ℕ) → list_all t ns ≡ true → Each P ns
each_known t P go [] h = tt
each_known t P go (n ∷ ns) h = let both = both_true (t n) (list_all t ns) h in (go n both.0, each_known t P go ns both.1)

pub each_passes : {A : Type 0} (t : A → Bool) (xs : List A) → list_all t xs ≡ true → Each (λ (x : A). t x ≡ true) xs
each_passes t [] e = tt
each_passes t (x ∷ xs) e = (and_first (t x) (list_all t xs) e, each_passes t xs (and_second (t x) (list_all t xs) e))

pub all_pass : {A : Type 0} (t : A → Bool) (xs : List A) → Each (λ (x : A). t x ≡ true) xs → list_all t xs ≡ true
all_pass t [] h = refl
all_pass t (x ∷ xs) h = and_both (t x) (list_all t xs) h.0 (all_pass t xs h.1)

pub each_turns : {A : Type 0} (P Q : A → Type 0) → ((x : A) → P x → Q x) → (xs : List A) → Each P xs → Each Q xs
each_turns P Q h [] k = tt
each_turns P Q h (x ∷ xs) k = (h x k.0, each_turns P Q h xs k.1)

pub each_all : {A : Type 0} (P : A → Type 0) → ((x : A) → P x) → (xs : List A) → Each P xs
each_all P h [] = tt
each_all P h (x ∷ xs) = (h x, each_all P h xs)

-- ---- lists

pub each_mapped : {A B : Type 0} (P : A → Type 0) (Q : B → Type 0) (f : A → B) → ((x : A) → P x → Q (f x)) → (xs : List A) → Each P xs → Each Q (map f xs)
each_mapped P Q f h [] k = tt
each_mapped P Q f h (x ∷ xs) k = (h x k.0, each_mapped P Q f h xs k.1)

pub each_filtered : {A : Type 0} (P : A → Type 0) (t : A → Bool) (xs : List A) → Each P xs → Each P (filter t xs)
each_filtered P t [] k = tt
each_filtered P t (x ∷ xs) k = on (t x) (each_filtered P t xs k.1)
  where
    on : (b : Bool) → Each P (filter t xs) → Each P (if b then x ∷ filter t xs else filter t xs)
    on true rest = (k.0, rest)
    on false rest = rest

-- ---- what holds of each element

pub each_both : {A : Type 0} (P Q : A → Type 0) (xs : List A) → Each P xs → Each Q xs → Each (λ x. P x × Q x) xs
each_both P Q [] h k = tt
each_both P Q (x ∷ xs) h k = ((h.0, k.0), each_both P Q xs h.1 k.1)

pub each_set : {A : Type 0} (P : A → Type 0) (xs : List A) (n : ℕ) (y : A) → P y → Each P xs → Each P (slice_set xs n y)
each_set P [] n y h k = tt
each_set P (x ∷ xs) zero y h k = (h, k.1)
each_set P (x ∷ xs) (suc n) y h k = (k.0, each_set P xs n y h k.1)

pub different_behind : (xs ys : List Name) → AreDifferent xs → AreDifferent ys → Each (λ y. Each (λ x. x ≡ y → ⊥) xs) ys → AreDifferent (xs ++ ys)
different_behind [] ys h k none = k
different_behind (x ∷ xs) ys h k none = (
  each_behind (λ y. x ≡ y → ⊥) xs ys h.0 (each_turns (λ y. Each (λ z. z ≡ y → ⊥) (x ∷ xs)) (λ y. x ≡ y → ⊥) (λ y d. d.0) ys none),
  different_behind xs ys h.1 k (each_turns (λ y. Each (λ z. z ≡ y → ⊥) (x ∷ xs)) (λ y. Each (λ z. z ≡ y → ⊥) xs) (λ y d. d.1) ys none),
)

pub different_set : (xs : List Name) (n : ℕ) (y : Name) → Each (λ x. x ≡ y → ⊥) xs → AreDifferent xs → AreDifferent (slice_set xs n y)
different_set [] n y none h = tt
different_set (x ∷ xs) zero y none h = (each_turns (λ z. z ≡ y → ⊥) (λ z. y ≡ z → ⊥) (λ z d e. d (sym e)) xs none.1, h.1)
different_set (x ∷ xs) (suc n) y none h = (each_set (λ z. x ≡ z → ⊥) xs n y none.0 h.0, different_set xs n y none.1 h.1)

pub apart_from : (names : List Name) → AreDifferent names → AreApart names
apart_from [] h i j a b e f same = absurd (cc)
apart_from (x ∷ xs) h zero zero a b e f same = refl
apart_from (x ∷ xs) h zero (suc j) a b e f same =
    let first : x ≡ a = cc in
    absurd (at_each (λ y. x ≡ y → ⊥) xs j b h.0 f (first ∙ same_name-same a b same))
apart_from (x ∷ xs) h (suc i) zero a b e f same =
    let first : x ≡ b = cc in
    absurd (at_each (λ y. x ≡ y → ⊥) xs i a h.0 e (first ∙ sym (same_name-same a b same)))
apart_from (x ∷ xs) h (suc i) (suc j) a b e f same = ap suc (apart_from xs h.1 i j a b e f same)

pub different_from : (names : List Name) → AreApart names → AreDifferent names
different_from [] h = tt
different_from (x ∷ xs) h = (
  each_there (λ y. x ≡ y → ⊥) xs (λ i y e same. let other : zero ≡ suc i = h zero (suc i) x y refl e (subst (λ (z : Name). same_name x z ≡ true) same (itself x)) in omega (arith, other)),
  different_from xs (λ i j a b e f same. let k : suc i ≡ suc j = h (suc i) (suc j) a b e f same in omega (arith, k)),
)

-- ---- rows of names

pub joined_names : (xs ys : List Name) → Each IsName xs → Each IsName ys → Each IsName (xs ++ ys)
joined_names xs ys a b = each_joined IsName xs ys a b
