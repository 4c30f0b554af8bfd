-- Lemmas on known, that speak of no pass.
use Rattle.std.proofs.Common.{inl, inr, List, [], ◌∷◌, sym, ap, subst}
use Rattle.std.specs.Prelude.{map}
use Rattle.run_laws.specs.flow_solver.Paths.{IsListed}
use Rattle.run_laws.specs.changed.Changed.{Each}

-- what each element of a list has
pub of_listed : {A : Type 0} (P : A → Type 0) (xs : List A) (x : A) → Each P xs → IsListed x xs → P x
of_listed P [] x h l = absurd l
of_listed P (y ∷ xs) x h (inl e) = subst P (sym e) h.0
of_listed P (y ∷ xs) x h (inr l) = of_listed P xs x h.1 l

pub listed_mapped : {A B : Type 0} (g : A → B) (xs : List A) (x : A) → IsListed x xs → IsListed (g x) (map g xs)
listed_mapped g [] x l = absurd l
listed_mapped g (y ∷ xs) x (inl e) = inl (ap g e)
listed_mapped g (y ∷ xs) x (inr l) = inr (listed_mapped g xs x l)
