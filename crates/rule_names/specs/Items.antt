-- What a rule says of the items of a module, and the first place at which it is broken.
use Rattle.std.specs.Prelude.{ℕ, Bool, List, [], Some, None, Option, ◌+◌, ◌∷◌}
use Rattle.ir_base.specs.declared.outcome.Item.{Item}
use Rattle.ir_base.specs.declared.outcome.Place.{Place}
use Rattle.ir_parts.specs.Parts.{item_place, or_place, place_if}
use Rattle.ir_model.specs.declared.module.Declaration.{Declaration}
use Rattle.ir_model.specs.declared.module.Function.{Function}
use Rattle.ir_model.specs.declared.module.GlobalItem.{GlobalItem}
use Rattle.ir_model.specs.declared.module.Module.{Module}
use Rattle.ir_model.specs.declared.module.TypeItem.{TypeItem}

-- whether a type, a global or a declaration at a position breaks the rule, and the first place in a function that does
pub record Sentence : Type 0 where
  pub on_type : ℕ → TypeItem → Bool
  pub on_global : ℕ → GlobalItem → Bool
  pub on_declaration : ℕ → Declaration → Bool
  pub in_function : ℕ → Function → Option Place

abbrev pub first_item : {A : Type 0} → (ℕ → Item) → (ℕ → A → Bool) → ℕ → List A → Option Place
first_item item breaks k [] = None
first_item item breaks k (x ∷ xs) = or_place (place_if (breaks k x) (item_place (item k))) (first_item item breaks (k + 1) xs)

abbrev pub first_function : (ℕ → Function → Option Place) → ℕ → List Function → Option Place
first_function place k [] = None
first_function place k (f ∷ fs) = or_place (place k f) (first_function place (k + 1) fs)

-- the first place over all items: types, then globals, then declarations, then functions, each in order of the text
abbrev pub first_place : Sentence → Module → Option Place
first_place s m =
    or_place (first_item Item.Type s.on_type 0 m.types)
    (or_place (first_item Item.Global s.on_global 0 m.globals)
    (or_place (first_item Item.Declaration s.on_declaration 0 m.declarations)
    (first_function s.in_function 0 m.functions)))
