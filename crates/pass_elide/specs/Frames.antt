-- Which calls give their callees a frame, and where it lies.
use Rattle.std.specs.Prelude.{ℕ, Bool, true, false, List, [], filter_map, find, slice_get, Some, None, Option}
use Rattle.std.specs.Prelude.{option_and_then, option_map, ◌==◌, if◌then◌else◌}
use Rattle.frame_layout.specs.declared.layout.FieldKind.{FieldKind}
use Rattle.frame_layout.specs.declared.layout.Layout.{Layout}
use Rattle.frame_layout.specs.declared.layout.PlacedField.{PlacedField}
use Rattle.ir_base.specs.declared.name.Name.{Name}
use Rattle.ir_base.specs.declared.outcome.Place.{Place}
use Rattle.ir_model.specs.Names.{function_named, same_name}
use Rattle.ir_model.specs.declared.instr.Instr.{Instr}
use Rattle.ir_model.specs.declared.module.Module.{Module}
use Rattle.ir_model.specs.declared.operand.Callee.{Callee}
use Rattle.pass_elide.specs.Places.{is_site}
use Rattle.pass_elide.specs.declared.fields.CalleeField.{CalleeField}
use Rattle.pass_elide.specs.declared.given.GivenFrame.{GivenFrame}

-- the layout of a coroutine's frame, by the position of the coroutine
abbrev pub layout_of : List Layout → ℕ → Option Layout
layout_of ls func = find (λ l. l.coroutine == func) ls

-- ---- in functions that are no coroutines: an alloca for each site

-- the layout of the frame of the coroutine that is called
abbrev pub callee_layout : Module → List Layout → Instr → Option Layout
callee_layout m ls (Instr.Call result must_tail ty (Callee.Named n) args) =
    option_and_then (layout_of ls) (function_named m n)
callee_layout m ls _ = None

abbrev pub frame_of : Layout → GivenFrame
frame_of l = GivenFrame.Alloca l.size l.align

-- a call of a coroutine at a site
abbrev pub site_frame : Module → List Layout → List Place → ℕ → ℕ → ℕ → Instr → Option GivenFrame
site_frame m ls sites func block at i =
    if is_site sites (record { func = func; block = block; at = at })
    then option_map frame_of (callee_layout m ls i)
    else None

-- ---- in coroutines: a field of kind Frame for the call whose result has its name

abbrev pub is_frame_kind : FieldKind → Bool
is_frame_kind FieldKind.Frame = true
is_frame_kind _ = false

abbrev pub callee_field : PlacedField → Option CalleeField
callee_field y = if is_frame_kind y.kind then option_map (λ n. record { name = n; offset = y.offset }) y.name else None

-- the fields for the frames of callees
abbrev pub callee_fields : Option Layout → List CalleeField
callee_fields None = []
callee_fields (Some l) = filter_map callee_field l.fields

-- the name of the result of a call of a function
abbrev pub result_name : List Name → Instr → Option Name
result_name names (Instr.Call (Some r) must_tail ty (Callee.Named n) args) = slice_get names r
result_name names _ = None

abbrev pub field_named : List CalleeField → Name → Option CalleeField
field_named fields n = find (λ y. same_name y.name n) fields

-- so far behind begin's value
abbrev pub frame_at : ℕ → CalleeField → GivenFrame
frame_at begin y = GivenFrame.Field begin y.offset

abbrev pub field_frame : ℕ → List CalleeField → List Name → Instr → Option GivenFrame
field_frame begin fields names i =
    option_map (frame_at begin) (option_and_then (field_named fields) (result_name names i))
