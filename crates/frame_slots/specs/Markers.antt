-- The lifetime markers of a function.
use Rattle.std.specs.Prelude.{ℕ, Bool, true, false, List, [], map, Some, None, Option, ◌∷◌, ◌++◌, if◌then◌else◌}
use Rattle.ir_model.specs.declared.instr.Instr.{Instr}
use Rattle.ir_model.specs.declared.module.Block.{Block}
use Rattle.ir_model.specs.declared.module.Function.{Function}
use Rattle.ir_model.specs.declared.operand.Intrinsic.{Intrinsic}
use Rattle.ir_model.specs.declared.operand.Operand.{Operand}
use Rattle.ir_paths.specs.Windows.{call_operand, is_call_of}
use Rattle.frame_slots.specs.Words.{name_word}
use Rattle.frame_slots.specs.declared.markers.Mark.{Mark}
use Rattle.frame_slots.specs.declared.markers.Marker.{Marker}

abbrev pub intrinsic_of : Marker → Intrinsic
intrinsic_of Marker.Start = Intrinsic.LifetimeStart
intrinsic_of Marker.End = Intrinsic.LifetimeEnd

abbrev pub same_marker : Marker → Marker → Bool
same_marker Marker.Start Marker.Start = true
same_marker Marker.Start Marker.End = false
same_marker Marker.End Marker.Start = false
same_marker Marker.End Marker.End = true

-- a marker takes a local
abbrev pub mark_on : Marker → Operand → Option Mark
mark_on k (Operand.Local v) = Some (record { marker = k; name = v })
mark_on k _ = None

-- the marker that an instruction is
abbrev pub mark_of : Instr → Option Mark
mark_of i =
    if is_call_of Intrinsic.LifetimeStart i then mark_on Marker.Start (call_operand i 1)
    else if is_call_of Intrinsic.LifetimeEnd i then mark_on Marker.End (call_operand i 1)
    else None

abbrev pub mark_row : Block → List (Option Mark)
mark_row b = map mark_of b.instrs

-- those of a function
abbrev pub mark_rows : Function → List (List (Option Mark))
mark_rows f = map mark_row f.blocks

-- the word of the name that a marker takes
abbrev pub marker_word : Marker → List ℕ → Option Mark → ℕ
marker_word k words None = 0
marker_word k words (Some m) = if same_marker k m.marker then name_word words m.name else 0

abbrev pub marked_row : Marker → List ℕ → List (Option Mark) → List ℕ
marked_row k words marks = map (marker_word k words) marks ++ 0 ∷ []

abbrev pub marked_rows : Marker → List ℕ → List (List (Option Mark)) → List (List ℕ)
marked_rows k words rows = map (marked_row k words) rows
