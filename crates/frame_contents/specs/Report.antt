-- The lines of layouts.
use Rattle.std.specs.Prelude.{ℕ, List, [], None, Some, Option, codes, decimal, option_map, slice_get, ◌∷◌, ◌++◌}
use Rattle.ir_base.specs.declared.name.Name.{Name}
use Rattle.text_names.specs.Spelling.{spelling}
use Rattle.frame_layout.specs.declared.layout.FieldKind.{FieldKind}
use Rattle.frame_layout.specs.declared.layout.Layout.{Layout}
use Rattle.frame_layout.specs.declared.layout.Layouts.{Layouts}
use Rattle.frame_layout.specs.declared.layout.PlacedField.{PlacedField}
use Rattle.ir_model.specs.declared.module.Module.{Module}

abbrev pub name_text : Option Name → List ℕ
name_text None = []
name_text (Some n) = spelling n

-- a word and a number, a space before each
abbrev pub number_text : List ℕ → ℕ → List ℕ
number_text word n = codes " " ++ word ++ codes " " ++ decimal n

abbrev pub function_name : Module → ℕ → Option Name
function_name m func = option_map (λ f. f.name) (slice_get m.functions func)

-- `frame @f size S align A index I`
abbrev pub frame_text : Module → Layout → List ℕ
frame_text m l =
    codes "frame @" ++ name_text (function_name m l.coroutine) ++ number_text (codes "size") l.size ++ number_text (codes "align") l.align ++ number_text (codes "index") l.index ++ codes "\n"

-- two spaces and `OFFSET SIZE`
abbrev pub place_text : PlacedField → List ℕ
place_text field = codes "  " ++ decimal field.offset ++ codes " " ++ decimal field.size

-- behind these `KIND NAME`
abbrev pub kind_text : List ℕ → PlacedField → List ℕ
kind_text kind field = codes " " ++ kind ++ codes " %" ++ name_text field.name ++ codes "\n"

abbrev pub line_text : List ℕ → PlacedField → List ℕ
line_text kind field = place_text field ++ kind_text kind field

-- the index has no line
abbrev pub field_text : FieldKind → PlacedField → List ℕ
field_text FieldKind.Promise field = line_text (codes "promise") field
field_text FieldKind.Value field = line_text (codes "value") field
field_text FieldKind.Slot field = line_text (codes "slot") field
field_text FieldKind.Index field = []
field_text FieldKind.Frame field = line_text (codes "frame") field

abbrev pub fields_text : List PlacedField → List ℕ
fields_text [] = []
fields_text (field ∷ fields) = field_text field.kind field ++ fields_text fields

abbrev pub layouts_text : Module → List Layout → List ℕ
layouts_text m [] = []
layouts_text m (l ∷ ls) = frame_text m l ++ fields_text l.fields ++ layouts_text m ls

abbrev pub layout_text : Module → Layouts → List ℕ
layout_text m layouts = layouts_text m layouts.coroutines
