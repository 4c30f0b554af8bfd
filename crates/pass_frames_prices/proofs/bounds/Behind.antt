-- What stands behind the place of an instruction is short.
use Rattle.std.proofs.Common.{◌≡◌, ℕ, ◌+◌, ◌≤◌, Bool, List, [], ◌++◌, length, refl, ap, ◌∙◌, arith, append-nil}
use Rattle.std.proofs.lemmas.List.{length-append}
use Rattle.std.specs.Prelude.{None, Option, Some, if◌then◌else◌}
use Rattle.pass_frames_proof.specs.ir_model.declared.instr.Instr.{Instr}
use Rattle.pass_frames_proof.specs.ir_parts.Contents.{result_of}
use Rattle.pass_frames_proof.specs.pass_addresses.Placing.{stays, without_promise_of}
use Rattle.pass_frames_proof.specs.pass_cells.Cells.{fetches_of}
use Rattle.pass_frames_proof.specs.pass_cells.Moves.{after_saved}
use Rattle.pass_frames_proof.specs.pass_cells.Written.{distance_behind, row_at, save_row, stored_result}
use Rattle.pass_frames_prices.proofs.bounds.Around.{behind_fits}
use Rattle.pass_frames_prices.proofs.bounds.Codes.{copied_few, stores_few}
use Rattle.pass_frames_proof.proofs.code.Left.{Far}
use Rattle.pass_frames_proof.proofs.layers.Grown.{grown_append}
use Rattle.pass_frames_proof.proofs.layers.Idle.{all_stay, state_stays}
use Rattle.pass_frames_prices.specs.Bounds.{behind_of}
use Rattle.pass_frames_proof.specs.Code.{ArePartsLeft, addressed, copied_there, load_name, loaded, loads, stores, write_name}
use Rattle.pass_frames_proof.specs.Framings.{IsFraming}
use Rattle.pass_frames_proof.specs.Layers.{Layer, after_of, behind_of as behind_in, each, grown, met, passed}
use Rattle.pass_frames_proof.specs.Passes.{unmarked_at}
use Rattle.pass_frames_proof.specs.Places.{Framing, Placed, addressing_layer, celled_layer, copied_layer, copies, copying_layer, marked, placed_layer, plan, unmarked_layer, writing_layer}

-- layers that put nothing behind an instruction
none_behind : {S : Type 0} (L : Layer S) → ((s : S) (i : Instr) → L.behind s i ≡ []) → (s : S) (o : Option Instr)
    → behind_in L s o ≡ []
none_behind L h s None = refl
none_behind L h s (Some i) = h s i

module _ (x : Framing) (k : ℕ) where
  addressing_none : (s : ℕ × Unit {0}) (i : Instr) → (addressing_layer x k).behind s i ≡ []
  addressing_none s i = refl

  unmarked_none : (s : Unit {0} × Unit {0}) (i : Instr) → (unmarked_at (marked x)).behind s i ≡ []
  unmarked_none s i =
      append-nil (behind_in (each without_promise_of) tt (if stays (marked x) i then Some i else None))
      ∙ none_behind (each without_promise_of) (λ u j. refl) tt (if stays (marked x) i then Some i else None)

  module _ (s : Placed) (i : Instr) (left : ArePartsLeft x k s i) where
    -- cells
    celled_behind : (celled_layer x k).behind s.0.0.0 i ≡ stores x s i
    celled_behind =
        append-nil _
        ∙ ap (λ (n : ℕ). stored_result (plan x) (result_of (loaded x s i))
        ++ distance_behind x.code (plan x) (after_saved n (save_row (plan x) (loaded x s i))) (loaded x s i))
        (state_stays (writing_layer x k) (loads x s i) left.written (write_name s))

    -- copies
    abbrev one : Bool × ℕ
    one = after_of (copying_layer x k) (met (celled_layer x k) (copying_layer x k) s.0.0.0 s.0.0.1 i)
        ((celled_layer x k).here s.0.0.0 i)

    copied_behind : (copied_layer x k).behind s.0.0 i ≡ copied_there x s i ++ stores x s i
    copied_behind =
        ap (λ (js : List Instr). copied_there x s i ++ grown (copying_layer x k) one js) celled_behind
        ∙ ap (λ (js : List Instr). copied_there x s i ++ js)
        (all_stay (copying_layer x k) (stores x s i) left.copied_behind one)

    -- markers and the promise
    abbrev two : Unit {0} × Unit {0}
    two = after_of (unmarked_at (marked x)) (met (copied_layer x k) (unmarked_at (marked x)) s.0.0 s.0.1 i)
        ((copied_layer x k).here s.0.0 i)

    unmarked_behind : (unmarked_layer x k).behind s.0 i ≡ copied_there x s i ++ stores x s i
    unmarked_behind =
        ap (λ (js : List Instr). js ++ grown (unmarked_at (marked x)) two ((copied_layer x k).behind s.0.0 i))
        (none_behind (unmarked_at (marked x)) unmarked_none
        (met (copied_layer x k) (unmarked_at (marked x)) s.0.0 s.0.1 i) ((copied_layer x k).here s.0.0 i))
        ∙ ap (grown (unmarked_at (marked x)) two) copied_behind
        ∙ all_stay (unmarked_at (marked x)) (copied_there x s i ++ stores x s i) left.unmarked_behind two

    -- addresses
    abbrev three : ℕ × Unit {0}
    three = after_of (addressing_layer x k) (met (unmarked_layer x k) (addressing_layer x k) s.0 s.1 i)
        ((unmarked_layer x k).here s.0 i)

    pub behind_is : (placed_layer x k).behind s i ≡ addressed x k three (copied_there x s i) ++ stores x s i
    behind_is =
        ap (λ (js : List Instr). js ++ grown (addressing_layer x k) three ((unmarked_layer x k).behind s.0 i))
        (none_behind (addressing_layer x k) addressing_none
        (met (unmarked_layer x k) (addressing_layer x k) s.0 s.1 i) ((unmarked_layer x k).here s.0 i))
        ∙ ap (grown (addressing_layer x k) three) unmarked_behind
        ∙ grown_append (addressing_layer x k) three (copied_there x s i) (stores x s i)
        ∙ ap (λ (js : List Instr). addressed x k three (copied_there x s i) ++ js)
        (all_stay (addressing_layer x k) (stores x s i) left.addressed_stores
        (passed (addressing_layer x k) three (copied_there x s i)))

    pub behind_short : (is : IsFraming x)
        → ((o : Option ℕ) → length (row_at (plan x).rows o) ≤ length (plan x).kept)
        → Far x is ≤ load_name s → Far x is ≤ write_name s
        → length ((placed_layer x k).behind s i) ≤ 1 + behind_of x i
    behind_short is rows low far =
        let q : ℕ = after_saved (write_name s) (save_row (plan x) (loaded x s i)) in
        let e : length ((placed_layer x k).behind s i)
        ≡ length (addressed x k three (copied_there x s i) ++ stores x s i) =
        ap length behind_is in
        let f = length-append (addressed x k three (copied_there x s i)) (stores x s i) in
        let a = copied_few x is k s low i rows far three in
        let b = stores_few x is k s low i rows far in
        let c = behind_fits x.code (plan x) (length (plan x).kept) (length (copies x).slots) rows
        (fetches_of (plan x)) (load_name s) q i in
        omega (arith, e, f, a, b, c)
