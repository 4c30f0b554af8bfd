-- Lemmas on sources, that speak of no pass.
use Rattle.std.proofs.Common.{inl, inr, ℕ, List, [], ◌∷◌, subst}
use Rattle.ir_laws.proofs.paths.source_rules.Locals.{listed_left, listed_right}
use Rattle.ir_laws.proofs.facts.Lists.{row_of}
use Rattle.run_laws.specs.flow_solver.Paths.{IsListed}

pub row_listed : {A : Type 0} (g : A → List ℕ) (xs : List A) (n : ℕ) (x : A) → IsListed x xs → IsListed n (g x) → IsListed n (row_of g xs)
row_listed g [] n x l h = absurd l
row_listed g (y ∷ xs) n x (inl e) h = listed_left n (g y) (row_of g xs) (subst (λ z. IsListed n (g z)) e h)
row_listed g (y ∷ xs) n x (inr l) h = listed_right n (g y) (row_of g xs) (row_listed g xs n x l h)
