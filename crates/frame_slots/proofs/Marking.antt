-- The markers of a function tell what its instructions mark.
use Rattle.std.proofs.Common.{◌≡◌, ℕ, Bool, true, false, List, [], ◌∷◌, ◌++◌, map, Option, Some, None, refl, sym, ap, ◌∙◌}
use Rattle.std.specs.Prelude.{Result, IfOk, Ok, Err, bit_or, if◌then◌else◌}
use Rattle.std.specs.Int.Bits.{or_zero_l}
use Rattle.ir_model.specs.Names.{same_intrinsic}
use Rattle.ir_model.specs.declared.instr.Instr.{Instr}
use Rattle.ir_model.specs.declared.module.Block.{Block}
use Rattle.ir_model.specs.declared.module.Function.{Function}
use Rattle.ir_model.specs.declared.operand.Callee.{Callee}
use Rattle.ir_model.specs.declared.operand.Intrinsic.{Intrinsic}
use Rattle.ir_model.specs.declared.operand.Operand.{Operand}
use Rattle.ir_paths.specs.Windows.{call_operand, is_call_of}
use Rattle.frame_slots.specs.Markers.{intrinsic_of, mark_of, mark_on, mark_row, mark_rows, marked_row, marked_rows, marker_word, same_marker}
use Rattle.frame_slots.specs.Words.{marked, marker_row, marker_rows, name_word, with_operand}
use Rattle.frame_slots.specs.declared.markers.Mark.{Mark}
use Rattle.frame_slots.specs.declared.markers.Marker.{Marker}

no_end_by : (j : Intrinsic) → same_intrinsic Intrinsic.LifetimeStart j ≡ true → same_intrinsic Intrinsic.LifetimeEnd j ≡ false
no_end_by Intrinsic.LifetimeStart e = refl
no_end_by _ e = absurd (cc)

-- a start is no end
no_end : (i : Instr) → is_call_of Intrinsic.LifetimeStart i ≡ true → is_call_of Intrinsic.LifetimeEnd i ≡ false
no_end (Instr.Call result must_tail ty (Callee.Intrinsic j) args) e = no_end_by j e
no_end _ e = absurd (cc)

-- what a marker takes has the word of its operand, for the same marker
own_word : (k : Marker) (words : List ℕ) (x : Operand) → marker_word k words (mark_on k x) ≡ with_operand words 0 x
own_word Marker.Start words (Operand.Local v) = sym (or_zero_l (name_word words v))
own_word Marker.End words (Operand.Local v) = sym (or_zero_l (name_word words v))
own_word k words (Operand.Global n) = refl
own_word k words (Operand.Number n) = refl
own_word k words Operand.True = refl
own_word k words Operand.False = refl
own_word k words Operand.Null = refl
own_word k words Operand.None = refl
own_word k words Operand.Poison = refl

other_word : (k j : Marker) → same_marker k j ≡ false → (words : List ℕ) (x : Operand) → marker_word k words (mark_on j x) ≡ 0
other_word k j e words (Operand.Local v) = ap (λ (b : Bool). if b then name_word words v else 0) e
other_word k j e words (Operand.Global n) = refl
other_word k j e words (Operand.Number n) = refl
other_word k j e words Operand.True = refl
other_word k j e words Operand.False = refl
other_word k j e words Operand.Null = refl
other_word k j e words Operand.None = refl
other_word k j e words Operand.Poison = refl

module _ (words : List ℕ) (i : Instr) where
  abbrev taken : Operand
  taken = call_operand i 1

  abbrev found : Bool → Bool → Option Mark
  found a b = if a then mark_on Marker.Start taken else if b then mark_on Marker.End taken else None

  abbrev told : Bool → ℕ
  told b = if b then with_operand words 0 taken else 0

  starts : (a b : Bool) → marker_word Marker.Start words (found a b) ≡ told a
  starts true b = own_word Marker.Start words taken
  starts false true = other_word Marker.Start Marker.End refl words taken
  starts false false = refl

  ends : (a b : Bool) → (a ≡ true → b ≡ false) → marker_word Marker.End words (found a b) ≡ told b
  ends true b none = other_word Marker.End Marker.Start refl words taken ∙ ap told (sym (none refl))
  ends false true none = own_word Marker.End words taken
  ends false false none = refl

  pub mark_tells : (k : Marker) → marker_word k words (mark_of i) ≡ marked (intrinsic_of k) words i
  mark_tells Marker.Start = starts (is_call_of Intrinsic.LifetimeStart i) (is_call_of Intrinsic.LifetimeEnd i)
  mark_tells Marker.End = ends (is_call_of Intrinsic.LifetimeStart i) (is_call_of Intrinsic.LifetimeEnd i) (no_end i)

instrs_tell : (k : Marker) (words : List ℕ) (is : List Instr) → map (marker_word k words) (map mark_of is) ≡ map (marked (intrinsic_of k) words) is
instrs_tell k words [] = refl
instrs_tell k words (i ∷ is) = ap (λ (w : ℕ). w ∷ map (marker_word k words) (map mark_of is)) (mark_tells words i k) ∙ ap (λ (ws : List ℕ). marked (intrinsic_of k) words i ∷ ws) (instrs_tell k words is)

blocks_tell : (k : Marker) (words : List ℕ) (bs : List Block) → marked_rows k words (map mark_row bs) ≡ map (marker_row (intrinsic_of k) words) bs
blocks_tell k words [] = refl
blocks_tell k words (b ∷ bs) =
    ap (λ (row : List ℕ). (row ++ 0 ∷ []) ∷ marked_rows k words (map mark_row bs)) (instrs_tell k words b.instrs)
    ∙ ap (λ (rows : List (List ℕ)). marker_row (intrinsic_of k) words b ∷ rows) (blocks_tell k words bs)

pub marks_tell : (k : Marker) (words : List ℕ) (f : Function) → marked_rows k words (mark_rows f) ≡ marker_rows (intrinsic_of k) words f
marks_tell k words f = blocks_tell k words f.blocks

pub rows_tell : {E : Type 0} (k : Marker) (words : List ℕ) (f : Function) (marks : List (List (Option Mark))) → marks ≡ mark_rows f → (r : Result (List (List ℕ)) E) → IfOk r (λ rows. rows ≡ marked_rows k words marks) → IfOk r (λ rows. rows ≡ marker_rows (intrinsic_of k) words f)
rows_tell k words f marks are (Ok rows) is = is ∙ ap (marked_rows k words) are ∙ marks_tell k words f
rows_tell k words f marks are (Err e) is = tt
