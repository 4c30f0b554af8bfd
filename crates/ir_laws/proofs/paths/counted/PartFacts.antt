-- Lemmas on part facts, that speak of no pass.
use Rattle.std.proofs.Common.{◌≡◌, inl, inr, Bool, true, List, [], ◌∷◌, ap, ◌∙◌}
use Rattle.std.specs.List.{list_all}
use Rattle.ir_laws.proofs.facts.Truth.{and_first, and_second}
use Rattle.run_laws.specs.flow_solver.Paths.{IsListed}

-- ---- tests that all elements pass

pub all_listed : {A : Type 0} (t : A → Bool) (xs : List A) → list_all t xs ≡ true → (x : A) → IsListed x xs → t x ≡ true
all_listed t [] h x l = absurd l
all_listed t (y ∷ ys) h x (inl e) = ap t e ∙ and_first (t y) (list_all t ys) h
all_listed t (y ∷ ys) h x (inr l) = all_listed t ys (and_second (t y) (list_all t ys) h) x l
