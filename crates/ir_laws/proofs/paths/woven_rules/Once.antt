-- Lemmas on once, that speak of no pass.
use Rattle.std.proofs.Common.{◌≡◌, inl, inr, ℕ, ◌≤◌, List, [], ◌∷◌, refl, sym, ap, ◌∙◌, arith}
use Rattle.std.specs.Prelude.{◌==◌}
use Rattle.ir_laws.proofs.facts.Truth.{itself}
use Rattle.ir_laws.proofs.facts.local_rules.Woven.{other_number}
use Rattle.run_laws.specs.flow_solver.Paths.{IsListed}
use Rattle.ir_laws.specs.facts.woven_rules.Pairs.{one_if, times}

pub times_none : (n : ℕ) (xs : List ℕ) → (IsListed n xs → ⊥) → times n xs ≡ 0
times_none n [] h = refl
times_none n (x ∷ xs) h =
    let here : one_if (x == n) ≡ 0 = ap one_if (other_number x n (λ e. h (inl (sym e)))) in
    let rest : times n xs ≡ 0 = times_none n xs (λ l. h (inr l)) in
    omega (arith, here, rest)

pub times_listed : (n : ℕ) (xs : List ℕ) → IsListed n xs → 1 ≤ times n xs
times_listed n [] h = absurd h
times_listed n (x ∷ xs) (inl e) =
    let here : one_if (x == n) ≡ 1 = ap one_if (ap (λ (k : ℕ). k == n) (sym e) ∙ itself n) in
    omega (arith, here)
times_listed n (x ∷ xs) (inr h) = let more = times_listed n xs h in omega (arith, more)
