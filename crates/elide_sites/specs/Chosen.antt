-- Those of a list that meet a relation.
use Rattle.std.specs.Prelude.{ℕ, zero, suc, List, [], ◌∷◌, ◌++◌}

-- Exactly those of the first list for which the fact holds, in their order.
pub data AreChosen {T : Type 0} (Holds : T → Type 0) : List T → List T → Type 0 where
  Nothing : AreChosen Holds [] []
  Taken : (x : T) (xs all : List T) → AreChosen Holds xs all → Holds x → AreChosen Holds (xs ++ x ∷ []) (all ++ x ∷ [])
  LeftOut : (x : T) (xs all : List T) → AreChosen Holds xs all → (Holds x → ⊥) → AreChosen Holds (xs ++ x ∷ []) all

-- the first numbers
abbrev pub up_to : ℕ → List ℕ
up_to zero = []
up_to (suc n) = up_to n ++ n ∷ []
