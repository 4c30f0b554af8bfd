-- Numbers of nodes above all names.
use Rattle.std.proofs.Common.{◌≡◌, ℕ, ◌+◌, ◌<◌, ◌≤◌, List, [], ◌∷◌, ◌++◌, length, take, get_or, ap, sym, ◌∙◌, subst, ⊎_elim, arith}
use Rattle.std.specs.Prelude.{IsTrue}
use Rattle.std.proofs.lemmas.List.{take_more}
use Rattle.flow_points.specs.ir_paths.Slots.{has_name}
use Rattle.flow_solver.proofs.Lists.{listed_at, listed_cases, place_of}
use Rattle.flow_solver.specs.Paths.{HasNodes}

abbrev pub AreBelow : ℕ → List ℕ → Type 0
AreBelow n names = (v : ℕ) → IsTrue (has_name names v) → v < n

nodes-put : (m n : ℕ) (xs : List (ℕ × ℕ)) (x : ℕ × ℕ) → m ≤ n → x.0 < n → x.1 < n → HasNodes m xs → HasNodes n (xs ++ x ∷ [])
nodes-put m n xs x le a b before e from to at =
    ⊎_elim
    (λ old. let p = place_of xs (from, to) old in let k = before p.0 from to p.1 in (let c = k.0 in omega (arith, c, le), let c = k.1 in omega (arith, c, le)))
    (λ new. (subst (λ y. y < n) (sym (ap (λ (p : ℕ × ℕ). p.0) new)) a, subst (λ y. y < n) (sym (ap (λ (p : ℕ × ℕ). p.1) new)) b))
    (listed_cases (from, to) x xs (listed_at (xs ++ x ∷ []) e (from, to) at))

pub nodes-more : (m n : ℕ) (xs : List (ℕ × ℕ)) (i : ℕ) (x : ℕ × ℕ) → i < length xs → x ≡ get_or xs i x → m ≤ n → x.0 < n → x.1 < n → HasNodes m (take i xs) → HasNodes n (take (i + 1) xs)
nodes-more m n xs i x lt is le a b before =
    subst (HasNodes n) (ap (λ (y : ℕ × ℕ). take i xs ++ y ∷ []) is ∙ sym (take_more xs i x lt)) (nodes-put m n (take i xs) x le a b before)
