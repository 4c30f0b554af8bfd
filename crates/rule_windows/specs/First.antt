-- The first of some things at which something holds.
use Rattle.std.specs.Prelude.{List, [], None, Some, Option, ◌≡◌, ◌⊎◌, ◌∷◌}
use Rattle.ir_base.specs.declared.outcome.Place.{Place}

-- the place is that of the first of them that breaks a rule, and none where none of them does
abbrev pub IsFirst : {A : Type 0} → (A → Type 0) → (A → Place) → List A → Option Place → Type 0
IsFirst Breaks place [] o = o ≡ None
IsFirst Breaks place (x ∷ xs) o = (Breaks x × (o ≡ Some (place x))) ⊎ ((¬ (Breaks x)) × IsFirst Breaks place xs o)
