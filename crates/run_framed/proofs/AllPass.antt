-- All that pass a test, by the last that does not.
use Rattle.std.proofs.Common.{◌≡◌, ℕ, suc, Bool, true, false, ◌&&◌, List, [], ◌∷◌, refl, ap, ◌∙◌, Option, Some, None}
use Rattle.std.specs.Prelude.{is_none, not, if◌then◌else◌, ◌||◌}
use Rattle.std.specs.List.{list_all}
use Rattle.run_source.specs.State.{last_from, or_else}
use Rattle.run_source.specs.declared.state.Instance.{Instance}

all-or : (v : Bool) (o : Option ℕ) (k : ℕ) (rest : Bool) → rest ≡ is_none o → (not v && rest) ≡ is_none (or_else o (if v then Some k else None))
all-or true None k rest e = refl
all-or true (Some i) k rest e = refl
all-or false None k rest e = e
all-or false (Some i) k rest e = e

pub none-fails : (test : Instance → Bool) (k : ℕ) (xs : List Instance) → list_all (λ x. not (test x)) xs ≡ is_none (last_from test k xs)
none-fails test k [] = refl
none-fails test k (x ∷ xs) = all-or (test x) (last_from test (suc k) xs) k (list_all (λ x. not (test x)) xs) (none-fails test (suc k) xs)

not-and : (a b : Bool) → (not a || b) ≡ not (a && not b)
not-and true true = refl
not-and true false = refl
not-and false b = refl

pub all-same : (s t : Instance → Bool) (xs : List Instance) → list_all (λ x. not (s x) || t x) xs ≡ list_all (λ x. not (s x && not (t x))) xs
all-same s t [] = refl
all-same s t (x ∷ xs) = ap (λ v. v && list_all (λ y. not (s y) || t y) xs) (not-and (s x) (t x)) ∙ ap (λ v. not (s x && not (t x)) && v) (all-same s t xs)
