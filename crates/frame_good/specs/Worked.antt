-- Fields, and two layouts of them.
use Rattle.std.specs.Prelude.{ℕ, List, [], ◌∷◌, None}
use Rattle.frame_layout.specs.declared.layout.Field.{Field}
use Rattle.frame_layout.specs.declared.layout.FieldKind.{FieldKind}
use Rattle.frame_layout.specs.declared.layout.Layout.{Layout}
use Rattle.frame_layout.specs.declared.layout.PlacedField.{PlacedField}

abbrev pub a_value : Field
a_value = record { kind = FieldKind.Value; name = None; size = 4; align = 4 }

abbrev pub the_index : Field
the_index = record { kind = FieldKind.Index; name = None; size = 1; align = 1 }

-- two values of four bytes, and the index
abbrev pub worked_fields : List Field
worked_fields = a_value ∷ a_value ∷ the_index ∷ []

abbrev pub index_at : ℕ → PlacedField
index_at offset = record { kind = FieldKind.Index; name = None; offset = offset; size = 1 }

abbrev pub value_at : ℕ → PlacedField
value_at offset = record { kind = FieldKind.Value; name = None; offset = offset; size = 4 }

-- the first value at 16, the second at an offset, and the index at 24
abbrev pub worked_layout : ℕ → Layout
worked_layout second =
    record {
      coroutine = 0;
      size = 32;
      align = 8;
      index = 24;
      offsets = 16 ∷ second ∷ 24 ∷ [];
      fields = value_at 16 ∷ value_at second ∷ index_at 24 ∷ [];
    }
