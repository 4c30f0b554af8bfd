-- Positions of names in the order of their first occurrence.
use Rattle.std.specs.Prelude.{ℕ, suc, List, [], ◌∷◌, Option, Some, None, if◌then◌else◌, slice_get}
use Rattle.ir_base.specs.declared.name.Name.{Name}
use Rattle.ir_model.specs.Names.{same_name}

abbrev pub behind : Name → ℕ × List Name → ℕ × List Name
behind m r = (suc r.0, m ∷ r.1)

-- the position of a name's first occurrence, and the names with it: a new name goes to the end
abbrev pub placed : Name → List Name → ℕ × List Name
placed n [] = (0, n ∷ [])
placed n (m ∷ ns) = if same_name m n then (0, m ∷ ns) else behind m (placed n ns)

abbrev pub placed_if : Option Name → ℕ → List Name → ℕ × List Name
placed_if (Some n) i ns = placed n ns
placed_if None i ns = (i, ns)

-- the name at a position of the first list, by its position among those so far
abbrev pub local_order : List Name → ℕ → List Name → ℕ × List Name
local_order names i ns = placed_if (slice_get names i) i ns

-- one after another
abbrev pub each_order : {A : Type 0} → (A → List Name → A × List Name) → List A → List Name → List A × List Name
each_order f [] ns = ([], ns)
each_order f (x ∷ xs) ns = ((f x ns).0 ∷ (each_order f xs (f x ns).1).0, (each_order f xs (f x ns).1).1)
