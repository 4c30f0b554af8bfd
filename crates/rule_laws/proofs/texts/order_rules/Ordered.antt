-- Lemmas on ordered, that speak of no pass.
use Rattle.std.proofs.Common.{List, [], ◌∷◌}
use Rattle.text_canonical.specs.order.Shape.{Each, Some_of}

pub each_of : {A : Type 0} (P : A → Type 0) (xs : List A) → Some_of P xs → Each P xs
each_of P [] h = absurd h
each_of P (x ∷ xs) h = h
