-- What a call of a coro intrinsic becomes whose operands aren't fetched, and whose result is kept nowhere.
use Rattle.std.proofs.Common.{◌≡◌, ◌+◌, ◌&&◌, ◌∷◌, ◌++◌, ◌∙◌, [], if◌then◌else◌, Bool, List, Option, Some, ap, false, refl, subst, sym, true, ℕ, None}
use Rattle.std.specs.Prelude.{slice_get}
use Rattle.pass_frames_code.proofs.ir_laws.facts.Members.{each_joined, each_turns}
use Rattle.pass_frames_code.proofs.ir_laws.facts.Truth.{false_behind}
use Rattle.pass_frames_code.specs.ir_model.declared.instr.Instr.{Instr}
use Rattle.pass_frames_code.specs.ir_model.declared.module.Module.{Module}
use Rattle.pass_frames_code.specs.ir_model.declared.operand.Intrinsic.{Intrinsic}
use Rattle.pass_frames_code.specs.ir_parts.Contents.{instr_operands, result_of}
use Rattle.pass_frames_code.specs.ir_paths.Windows.{is_call_of}
use Rattle.pass_frames_code.specs.pass_addresses.Placing.{lies_outside, stays, without_promise_of}
use Rattle.pass_frames_code.specs.pass_cells.Cells.{fetches_of}
use Rattle.pass_frames_code.specs.pass_cells.Moves.{after_saved, saved_one, saved_values}
use Rattle.pass_frames_code.specs.pass_cells.Written.{distance_behind, save_row, stored_result}
use Rattle.pass_frames_code.specs.pass_cells.declared.plan.KeptValue.{KeptValue}
use Rattle.pass_frames_code.specs.pass_copies.BeginCopies.{begin_copies}
use Rattle.pass_frames_code.specs.pass_fetch.Blocks.{end_at}
use Rattle.pass_frames_code.specs.pass_fetch.Fetching.{fetches_of_all}
use Rattle.pass_frames_code.specs.pass_fetch.Instrs.{with_fetched}
use Rattle.pass_frames_code.specs.pass_fetch.declared.fetch.Fetch.{Fetch}
use Rattle.pass_frames_code.proofs.code.Idle.{each_idle, fetches_idle, only_idle, instr_same}
use Rattle.pass_frames_code.proofs.code.Instrs.{instr_code}
use Rattle.pass_frames_code.proofs.code.Left.{IsMove, move_outside, parts_left}
use Rattle.pass_frames_code.proofs.layers.Grown.{both_becomes}
use Rattle.pass_frames_code.proofs.layers.Idle.{all_stay, both_idle}
use Rattle.pass_frames_code.proofs.led.Front.{all_still}
use Rattle.pass_frames_code.specs.Code.{address_state, addressed, code_of, copied_there, is_ahead, load_name, loaded, loads, located, past_addressed, saved, slot_table, stores, unmarked_one, where_name, wheres, write_name}
use Rattle.pass_frames_code.specs.Framings.{IsFraming}
use Rattle.pass_frames_code.specs.Layers.{IsIdle, Layer, becomes, each, only}
use Rattle.pass_frames_code.specs.Led.{IsStill}
use Rattle.pass_frames_code.specs.Lined.{GivesNone}
use Rattle.pass_frames_code.specs.Passes.{block_at, fetched_before, fetched_first, fetches_before, fetching_at, phi_ends, unmarked_at}
use Rattle.pass_frames_code.specs.Places.{Framing, Placed, addressing_layer, copies, instrs_at, marked, offsets, placed_layer, plan, unmarked}
use Rattle.pass_frames_code.specs.Saving.{IsBare, saved_line}
use Rattle.pass_frames_code.specs.Stepping.{state_in}
use Rattle.pass_frames_code.specs.pass_front.Front.{is_no_alloca}
use Rattle.pass_frames_code.proofs.pass_proofs.fetch.shape.Fetching.{none_fetched}
use Rattle.pass_frames_code.specs.run_laws.changed.Changed.{Each}
use Rattle.pass_frames_code.specs.pass_copies.BeginCopies.{behind as behind_begin}

module _ (x : Framing) (k : ℕ) (n : Placed) (i : Instr) (bare : IsBare x i) where
  loaded_is : loaded x n i ≡ i
  loaded_is = instr_same (fetches_of (plan x)) (load_name n) i bare.unloaded

  loads_none : loads x n i ≡ []
  loads_none = none_fetched (fetches_of (plan x)) (load_name n) (instr_operands i) bare.unloaded

  wheres_none : wheres x n i ≡ []
  wheres_none = ap (fetches_before (copies x) (is_ahead n) (where_name n)) loaded_is ∙ none
    where
      none : fetches_before (copies x) (is_ahead n) (where_name n) i ≡ []
      none =
          ap (λ (b : Bool). if is_ahead n && b then fetches_of_all (copies x).fetches (where_name n) (instr_operands i)
          else []) bare.accesses
          ∙ ap (λ (b : Bool). if b then fetches_of_all (copies x).fetches (where_name n) (instr_operands i) else [])
          (false_behind (is_ahead n))

  located_is : located x n i ≡ i
  located_is = ap (fetched_before (copies x) (is_ahead n) (where_name n)) loaded_is ∙ same
    where
      same : fetched_before (copies x) (is_ahead n) (where_name n) i ≡ i
      same =
          ap (λ (b : Bool). if is_ahead n && b then with_fetched (copies x).fetches (where_name n) i else i)
          bare.accesses
          ∙ ap (λ (b : Bool). if b then with_fetched (copies x).fetches (where_name n) i else i)
          (false_behind (is_ahead n))

  unmarked_is : unmarked_one x (located x n i) ≡ i ∷ []
  unmarked_is =
      ap (unmarked_one x) located_is
      ∙ all_stay (unmarked_at (marked x)) (i ∷ []) (
        both_idle (only (stays (marked x))) (each without_promise_of) i
            (only_idle (stays (marked x)) i bare.unmarked) (each_idle without_promise_of i bare.same),
        tt,
      )
      (tt, tt)

  copied_none : copied_there x n i ≡ []
  copied_none =
      ap (behind_begin (copies x)) loaded_is
      ∙ ap (λ (b : Bool). if b then begin_copies (copies x).slots else []) bare.begins

  stores_none : stores x n i ≡ []
  stores_none =
      ap (λ (j : Instr). stored_result (plan x) (result_of j)
      ++ distance_behind x.code (plan x) (after_saved (write_name n) (save_row (plan x) j)) j) loaded_is
      ∙ (λ j. bare.unkept j ++ bare.unmeasured (after_saved (write_name n) (save_row (plan x) i)) j)

  idle : IsIdle (addressing_layer x k) i
  idle =
      both_idle (fetching_at (unmarked x) (slot_table x) k) (only (lies_outside (offsets x))) i
      (fetches_idle (slot_table x) (end_at (phi_ends (unmarked x) (slot_table x)) (block_at (unmarked x) k).label)
      (fetched_first (unmarked x) (slot_table x) k) (block_at (unmarked x) k) i bare.unaddressed)
      (only_idle (lies_outside (offsets x)) i bare.outside)

  saved_is : saved x n i ≡ saved_values (plan x).kept (write_name n) (save_row (plan x) i)
  saved_is = ap (λ (j : Instr). saved_values (plan x).kept (write_name n) (save_row (plan x) j)) loaded_is

  abbrev first : ℕ × Unit {0}
  first = past_addressed x k (address_state n) (saved x n i)

  bare_code : code_of x k n i ≡ saved_line x k n i ++ (i ∷ [])
  bare_code =
      (λ j. loads_none j
      ++ (addressed x k (address_state n) (saved x n i)
      ++ (wheres_none j
      ++ (addressed x k first (unmarked_is j)
      ++ (addressed x k (past_addressed x k first (unmarked_is j)) (copied_none j) ++ stores_none j)))))
      ∙ ap (λ (xs : List Instr). addressed x k (address_state n) (saved x n i) ++ (xs ++ []))
      (all_stay (addressing_layer x k) (i ∷ []) (idle, tt) first)
      ∙ ap (λ (xs : List Instr). addressed x k (address_state n) xs ++ (i ∷ [])) saved_is

pub bare_becomes : (x : Framing) → IsFraming x → (k at : ℕ) (i : Instr) → slice_get (instrs_at x k) at ≡ Some i
    → IsBare x i
    → becomes (placed_layer x k) (state_in x k at) i ≡ saved_line x k (state_in x k at) i ++ (i ∷ [])
bare_becomes x is k at i there bare =
    instr_code x k (state_in x k at) i (parts_left x is k at i there) ∙ bare_code x k (state_in x k at) i bare

-- ---- lines of moves

module _ (x : Framing) (k : ℕ) where
  still_moves : (j : Instr) → IsStill j → IsMove j
  still_moves (Instr.Load r ty p align) s = tt
  still_moves (Instr.Gep r inbounds ty p indices) s = tt
  still_moves _ s = absurd s

  fetched_moves : (t : List (Option Fetch)) (n : ℕ) (j : Instr) → IsMove j → IsMove (with_fetched t n j)
  fetched_moves t n (Instr.Binary r op flags ty a b) m = tt
  fetched_moves t n (Instr.Cast r op nneg a to) m = tt
  fetched_moves t n (Instr.Load r ty p align) m = tt
  fetched_moves t n (Instr.Store a p align) m = tt
  fetched_moves t n (Instr.Gep r inbounds ty p indices) m = tt
  fetched_moves t n _ m = absurd m

  module _ (s : ℕ × Unit {0}) (j : Instr) (m : IsMove j) where
    abbrev A : Layer ℕ
    A = fetching_at (unmarked x) (slot_table x) k

    abbrev B : Layer (Unit {0})
    B = only (lies_outside (offsets x))

    abbrev line : List Instr
    line = fetches_of_all (slot_table x) s.0 (instr_operands j) ++ (with_fetched (slot_table x) s.0 j ∷ [])

    line_is : Each IsMove line
    line_is =
        each_joined IsMove (fetches_of_all (slot_table x) s.0 (instr_operands j))
        (with_fetched (slot_table x) s.0 j ∷ [])
        (each_turns IsStill IsMove still_moves (fetches_of_all (slot_table x) s.0 (instr_operands j))
        (all_still (slot_table x) s.0 (instr_operands j)))
        (fetched_moves (slot_table x) s.0 j m, tt)

    code_is : becomes (addressing_layer x k) s j ≡ line
    code_is =
        both_becomes A B s.0 s.1 j
        ∙ all_stay B line
        (each_turns IsMove (IsIdle B) (λ i q. only_idle (lies_outside (offsets x)) i
        (move_outside (offsets x) i q)) line line_is) s.1

    one_moves : Each IsMove (becomes (addressing_layer x k) s j)
    one_moves = subst (Each IsMove) (sym code_is) line_is

  pub addressed_moves : (s : ℕ × Unit {0}) (is : List Instr) → Each IsMove is → Each IsMove (addressed x k s is)
  addressed_moves s [] m = tt
  addressed_moves s (j ∷ is) m =
      each_joined IsMove (becomes (addressing_layer x k) s j)
      (addressed x k ((addressing_layer x k).after s j) is) (one_moves s j m.0)
      (addressed_moves ((addressing_layer x k).after s j) is m.1)

  saved_moves : (kept : List KeptValue) (n : ℕ) (row : List ℕ) → Each IsMove (saved_values kept n row)
  saved_moves kept n [] = tt
  saved_moves kept n (v ∷ row) =
      each_joined IsMove (saved_one n (slice_get kept v)) (saved_values kept (n + 1) row) (on (slice_get kept v))
      (saved_moves kept (n + 1) row)
    where
      on : (o : Option KeptValue) → Each IsMove (saved_one n o)
      on None = tt
      on (Some q) = (tt, (tt, tt))

  pub line_moves : (n : Placed) (i : Instr) → Each IsMove (saved_line x k n i)
  line_moves n i =
      addressed_moves (address_state n) (saved_values (plan x).kept (write_name n) (save_row (plan x) i))
      (saved_moves (plan x).kept (write_name n) (save_row (plan x) i))

-- a move is no alloca, gives no frame, and calls no intrinsic
pub record IsEasyMove (m : Module) (j : Instr) : Type 0 where
  pub no_alloca : is_no_alloca j ≡ true
  pub gives : GivesNone m j
  pub calls : (intrinsic : Intrinsic) → is_call_of intrinsic j ≡ false

pub easy_move : (m : Module) (j : Instr) → IsMove j → IsEasyMove m j
easy_move m (Instr.Binary r op flags ty a b) q = record { no_alloca = refl; gives = refl; calls = λ i. refl }
easy_move m (Instr.Cast r op nneg a to) q = record { no_alloca = refl; gives = refl; calls = λ i. refl }
easy_move m (Instr.Load r ty p align) q = record { no_alloca = refl; gives = refl; calls = λ i. refl }
easy_move m (Instr.Store a p align) q = record { no_alloca = refl; gives = refl; calls = λ i. refl }
easy_move m (Instr.Gep r inbounds ty p indices) q = record { no_alloca = refl; gives = refl; calls = λ i. refl }
easy_move m _ q = absurd q
