-- The last instance that passes a test, found in a walk.
use Rattle.std.proofs.Common.{◌≡◌, ℕ, suc, ◌+◌, ◌<◌, Bool, true, false, List, [], ◌∷◌, ◌++◌, length, take, get_or, refl, ap, ◌∙◌, arith, Option, Some, None}
use Rattle.std.specs.Prelude.{if◌then◌else◌}
use Rattle.std.proofs.lemmas.List.{length-take-le}
use Rattle.run_source.specs.State.{last_from, or_else}
use Rattle.run_source.specs.declared.state.Instance.{Instance}
use Rattle.run_source_tables.proofs.Walks.{take-next}

last-by : (b : Bool) (m n : ℕ) (o q : Option ℕ) → m ≡ n → or_else (if b then Some m else o) q ≡ (if b then Some n else or_else o q)
last-by true m n o q e = ap Some e
last-by false m n o q e = refl

pub last-snoc : (test : Instance → Bool) (k : ℕ) (xs : List Instance) (y : Instance) → last_from test k (xs ++ y ∷ []) ≡ (if test y then Some (k + length xs) else last_from test k xs)
last-snoc test k [] y = let n : k ≡ k + 0 = omega arith in ap (λ m. if test y then Some m else None) n
last-snoc test k (x ∷ xs) y =
    let q : Option ℕ = if test x then Some k else None in
    let n : suc k + length xs ≡ k + suc (length xs) = omega arith in
    ap (λ o. or_else o q) (last-snoc test (suc k) xs y) ∙ last-by (test y) (suc k + length xs) (k + suc (length xs)) (last_from test (suc k) xs) q n

pub last-next : (test : Instance → Bool) (xs : List Instance) (i : ℕ) (x : Instance) → i < length xs → x ≡ get_or xs i x → last_from test 0 (take (i + 1) xs) ≡ (if test x then Some i else last_from test 0 (take i xs))
last-next test xs i x lt e =
    let k : length (take i xs) ≡ i = length-take-le i xs (omega arith) in
    let n : 0 + length (take i xs) ≡ i = omega (arith, k) in
    ap (last_from test 0) (take-next xs i x lt e)
    ∙ last-snoc test 0 (take i xs) x
    ∙ ap (λ m. if test x then Some m else last_from test 0 (take i xs)) n
