-- Lemmas on moved, that speak of no pass.
use Rattle.std.specs.Prelude.{List, [], ◌∷◌}

-- two lists have as many elements, and R holds of each pair
abbrev pub ArePaired : {A B : Type 0} → (A → B → Type 0) → List A → List B → Type 0
ArePaired R [] [] = Unit {0}
ArePaired R [] (y ∷ ys) = ⊥
ArePaired R (x ∷ xs) [] = ⊥
ArePaired R (x ∷ xs) (y ∷ ys) = R x y × ArePaired R xs ys
