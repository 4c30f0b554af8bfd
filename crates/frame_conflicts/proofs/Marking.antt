-- What points do by the markers of a function.
use Rattle.std.proofs.Common.{◌≡◌, ℕ, List, [], ◌∷◌, ◌++◌, map, Option, refl, ap, ◌∙◌}
use Rattle.std.specs.Prelude.{Result, IfOk, Ok, Err}
use Rattle.ir_model.specs.declared.instr.Instr.{Instr}
use Rattle.ir_model.specs.declared.module.Block.{Block}
use Rattle.ir_model.specs.declared.module.Function.{Function}
use Rattle.ir_model.specs.declared.operand.Intrinsic.{Intrinsic}
use Rattle.frame_classes.specs.flow_reach.declared.question.Pass.{Pass}
use Rattle.frame_conflicts.specs.Started.{marked_pass, marked_passes, marked_row, no_pass, pass_of, pass_row, pass_rows}
use Rattle.frame_classes.proofs.frame_slots.Marking.{mark_tells}
use Rattle.frame_classes.specs.frame_slots.Markers.{mark_of, mark_row, mark_rows, marker_word}
use Rattle.frame_classes.specs.frame_slots.Words.{marked}
use Rattle.frame_classes.specs.frame_slots.declared.markers.Mark.{Mark}
use Rattle.frame_classes.specs.frame_slots.declared.markers.Marker.{Marker}

abbrev both : ℕ → ℕ → Pass
both a b = record { stops = a; begins = b }

pass_tells : (names : List ℕ) (i : Instr) → marked_pass names (mark_of i) ≡ pass_of names i
pass_tells names i =
    ap (λ (w : ℕ). both w (marker_word Marker.Start names (mark_of i))) (mark_tells names i Marker.End)
    ∙ ap (λ (w : ℕ). both (marked Intrinsic.LifetimeEnd names i) w) (mark_tells names i Marker.Start)

instrs_tell : (names : List ℕ) (is : List Instr) → map (marked_pass names) (map mark_of is) ≡ map (pass_of names) is
instrs_tell names [] = refl
instrs_tell names (i ∷ is) = ap (λ (p : Pass). p ∷ map (marked_pass names) (map mark_of is)) (pass_tells names i) ∙ ap (λ (ps : List Pass). pass_of names i ∷ ps) (instrs_tell names is)

blocks_tell : (names : List ℕ) (bs : List Block) → marked_passes names (map mark_row bs) ≡ map (pass_row names) bs
blocks_tell names [] = refl
blocks_tell names (b ∷ bs) =
    ap (λ (row : List Pass). (row ++ no_pass ∷ []) ∷ marked_passes names (map mark_row bs)) (instrs_tell names b.instrs)
    ∙ ap (λ (rows : List (List Pass)). pass_row names b ∷ rows) (blocks_tell names bs)

-- they do what its instructions do
pub passes_tell : (names : List ℕ) (f : Function) → marked_passes names (mark_rows f) ≡ pass_rows names f
passes_tell names f = blocks_tell names f.blocks

pub rows_tell : {E : Type 0} (names : List ℕ) (f : Function) (marks : List (List (Option Mark))) → marks ≡ mark_rows f → (r : Result (List (List Pass)) E) → IfOk r (λ rows. rows ≡ marked_passes names marks) → IfOk r (λ rows. rows ≡ pass_rows names f)
rows_tell names f marks are (Ok rows) is = is ∙ ap (marked_passes names) are ∙ passes_tell names f
rows_tell names f marks are (Err e) is = tt
