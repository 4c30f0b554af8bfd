-- The alignments of named types in a table.
use Rattle.std.specs.Prelude.{◌≡◌, ℕ, Bool, true, false, List, [], ◌∷◌, Option, Some, None, if◌then◌else◌, ◌==◌}
use Rattle.ir_base.specs.declared.name.Name.{Name}
use Rattle.indexmap.specs.IndexMap.{get}
use Rattle.ir_model.specs.Layout.{type_named}
use Rattle.ir_model.specs.Names.{same_name}
use Rattle.ir_model.specs.declared.module.TypeItem.{TypeItem}
use Rattle.ir_alignments.specs.Alignment.{alignment_in, of_named}
use Rattle.ir_alignments.specs.declared.level.Level.{Level}

abbrev pub joined : Option (Option ℕ) → Option ℕ
joined None = None
joined (Some a) = a

-- the alignment that the table has of a name
abbrev pub known_at : Level → Name → Option ℕ
known_at l n = joined (get same_name l.map n)

abbrev pub same_alignment : Option ℕ → Option ℕ → Bool
same_alignment None None = true
same_alignment (Some a) (Some b) = a == b
same_alignment _ _ = false

-- both have the same of each of the types' names
abbrev pub agree_on : List TypeItem → (Name → Option ℕ) → (Name → Option ℕ) → Bool
agree_on [] f g = true
agree_on (t ∷ ts) f g = if same_alignment (f t.name) (g t.name) then agree_on ts f g else false

-- the table that follows from another one
abbrev pub IsNext : List TypeItem → (Name → Option ℕ) → (Name → Option ℕ) → Type 0
IsNext types before next = (n : Name) → next n ≡ of_named (alignment_in before 64) (type_named types n)
