-- What stands in the framed form for an instruction of which no operand is fetched and no result kept, and which begins,
-- saves and accesses nothing: it alone, or nothing.
use Rattle.std.proofs.Common.{◌≡◌, ◌&&◌, ◌∷◌, ◌++◌, ◌∙◌, [], if◌then◌else◌, Bool, List, None, Option, Some, ap, append-nil, false, refl, true, ℕ}
use Rattle.std.specs.Prelude.{option_to_list, slice_get}
use Rattle.pass_frames_code.specs.ir_model.declared.instr.Instr.{Instr}
use Rattle.pass_frames_code.specs.ir_parts.Contents.{instr_operands, result_of}
use Rattle.pass_frames_code.specs.pass_addresses.Placing.{lies_outside, stays, without_promise_of}
use Rattle.pass_frames_code.specs.pass_cells.Cells.{fetches_of}
use Rattle.pass_frames_code.specs.pass_cells.Moves.{after_saved, saved_values}
use Rattle.pass_frames_code.specs.pass_cells.Written.{distance_behind, save_row, stored_result}
use Rattle.pass_frames_code.specs.pass_copies.BeginCopies.{behind as behind_begin}
use Rattle.pass_frames_code.specs.pass_copies.Uses.{is_access}
use Rattle.pass_frames_code.specs.pass_fetch.Fetching.{fetches_of_all}
use Rattle.pass_frames_code.specs.pass_fetch.Instrs.{with_fetched}
use Rattle.pass_frames_code.specs.pass_fetch.declared.fetch.Fetch.{Fetch}
use Rattle.pass_frames_code.proofs.code.Idle.{each_idle, fetches_idle, instr_same, not_measured, not_stored, only_idle}
use Rattle.pass_frames_code.proofs.code.Instrs.{instr_code}
use Rattle.pass_frames_code.proofs.code.Left.{parts_left}
use Rattle.pass_frames_code.proofs.layers.Grown.{both_becomes, grown_one}
use Rattle.pass_frames_code.proofs.layers.Idle.{all_stay, both_idle}
use Rattle.pass_frames_code.specs.Code.{address_state, addressed, code_of, copied_there, is_ahead, load_name, loaded, loads, located, past_addressed, saved, slot_table, stores, unmarked_one, where_name, wheres, write_name}
use Rattle.pass_frames_code.specs.Framings.{IsFraming}
use Rattle.pass_frames_code.specs.Layers.{becomes, each, grown, only}
use Rattle.pass_frames_code.specs.pass_fetch.Blocks.{end_at}
use Rattle.pass_frames_code.specs.Passes.{IsUnwritten, block_at, fetching_at, phi_ends, unmarked_at}
use Rattle.pass_frames_code.specs.Places.{Framing, Placed, addressing_layer, copies, instrs_at, marked, offsets, placed_layer, plan, unmarked}
use Rattle.pass_frames_code.specs.Stepping.{state_in}
use Rattle.pass_frames_code.proofs.pass_proofs.fetch.shape.Fetching.{none_fetched}
use Rattle.pass_frames_code.specs.pass_proofs.fetch.rules.Fetches.{AreUnfetched}

-- ---- before markers go and addresses are made

module _ (x : Framing) (k : ℕ) (s : Placed) (i : Instr) (plain : AreUnfetched (fetches_of (plan x)) (instr_operands i))
    (unwritten : IsUnwritten (plan x) i) (accesses : is_access i ≡ false) (begins : behind_begin (copies x) i ≡ []) where
  abbrev T : List (Option Fetch)
  T = fetches_of (plan x)

  abbrev A : ℕ × Unit {0}
  A = address_state s

  loads_none : loads x s i ≡ []
  loads_none = none_fetched T (load_name s) (instr_operands i) plain

  loaded_same : loaded x s i ≡ i
  loaded_same = instr_same T (load_name s) i plain

  saved_none : saved x s i ≡ []
  saved_none =
      ap (λ (j : Instr). saved_values (plan x).kept (write_name s) (save_row (plan x) j)) loaded_same
      ∙ ap (saved_values (plan x).kept (write_name s)) unwritten.row

  no_list : (b : Bool) (is : List Instr) → (if b && false then is else []) ≡ []
  no_list true is = refl
  no_list false is = refl

  no_instr : (b : Bool) (j : Instr) → (if b && false then j else i) ≡ i
  no_instr true j = refl
  no_instr false j = refl

  wheres_none : wheres x s i ≡ []
  wheres_none =
      ap (λ (j : Instr). if is_ahead s && is_access j then fetches_of_all (copies x).fetches (where_name s)
      (instr_operands j) else []) loaded_same
      ∙ ap (λ (c : Bool). if is_ahead s && c then fetches_of_all (copies x).fetches (where_name s)
      (instr_operands i) else []) accesses
      ∙ no_list (is_ahead s) (fetches_of_all (copies x).fetches (where_name s) (instr_operands i))

  located_same : located x s i ≡ i
  located_same =
      ap (λ (j : Instr). if is_ahead s && is_access j then with_fetched (copies x).fetches (where_name s) j else j)
      loaded_same
      ∙ ap (λ (c : Bool). if is_ahead s && c then with_fetched (copies x).fetches (where_name s) i else i) accesses
      ∙ no_instr (is_ahead s) (with_fetched (copies x).fetches (where_name s) i)

  copied_none : copied_there x s i ≡ []
  copied_none = ap (behind_begin (copies x)) loaded_same ∙ begins

  stores_none : stores x s i ≡ []
  stores_none =
      ap (λ (j : Instr). stored_result (plan x) (result_of j)
      ++ distance_behind x.code (plan x) (after_saved (write_name s) (save_row (plan x) j)) j) loaded_same
      ∙ (λ j. not_stored x.code (plan x) (result_of i) unwritten.result j
      ++ (not_measured x.code (plan x) (after_saved (write_name s) (save_row (plan x) i)) i unwritten.distance).0 j)

  pub calm_code : code_of x k s i ≡ addressed x k A (unmarked_one x i)
  calm_code =
      (λ j. loads_none j
      ++ (addressed x k A (saved_none j)
      ++ (wheres_none j
      ++ (addressed x k (past_addressed x k A (saved_none j)) (unmarked_one x (located_same j))
      ++ (addressed x k
      (past_addressed x k (past_addressed x k A (saved_none j)) (unmarked_one x (located_same j))) (copied_none j)
      ++ stores_none j)))))
      ∙ append-nil (addressed x k A (unmarked_one x i))

-- ---- what goes, and what stays

only_gone : (test : Instr → Bool) (i : Instr) → test i ≡ false → becomes (only test) tt i ≡ []
only_gone test i e = ap (λ (c : Bool). option_to_list (if c then Some i else None) ++ []) e

-- a marker that goes
pub unmarked_gone : (x : Framing) (i : Instr) → stays (marked x) i ≡ false → unmarked_one x i ≡ []
unmarked_gone x i e =
    grown_one (unmarked_at (marked x)) (tt, tt) i
    ∙ both_becomes (only (stays (marked x))) (each without_promise_of) tt tt i
    ∙ ap (grown (each without_promise_of) tt) (only_gone (stays (marked x)) i e)

pub unmarked_same : (x : Framing) (i : Instr) → stays (marked x) i ≡ true → without_promise_of i ≡ i
    → unmarked_one x i ≡ i ∷ []
unmarked_same x i e same =
    all_stay (unmarked_at (marked x)) (i ∷ []) (
      both_idle (only (stays (marked x))) (each without_promise_of) i (only_idle (stays (marked x)) i e)
          (each_idle without_promise_of i same),
      tt,
    ) (tt, tt)

-- no address is made of what no operand asks for
pub addressed_same : (x : Framing) (k : ℕ) (n : ℕ × Unit {0}) (i : Instr)
    → AreUnfetched (slot_table x) (instr_operands i) → lies_outside (offsets x) i ≡ true
    → addressed x k n (i ∷ []) ≡ i ∷ []
addressed_same x k n i plain outside =
    all_stay (addressing_layer x k) (i ∷ []) (
      both_idle (fetching_at (unmarked x) (slot_table x) k) (only (lies_outside (offsets x))) i
          (fetches_idle (slot_table x)
          (end_at (phi_ends (unmarked x) (slot_table x)) (block_at (unmarked x) k).label) _ (block_at (unmarked x) k)
          i plain) (only_idle (lies_outside (offsets x)) i outside),
      tt,
    ) n

-- ---- in a coroutine

module _ (x : Framing) (is : IsFraming x) (k at : ℕ) (i : Instr) (there : slice_get (instrs_at x k) at ≡ Some i)
    (plain : AreUnfetched (fetches_of (plan x)) (instr_operands i)) (unwritten : IsUnwritten (plan x) i)
    (accesses : is_access i ≡ false) (begins : behind_begin (copies x) i ≡ []) where
  pub calm_becomes : becomes (placed_layer x k) (state_in x k at) i
      ≡ addressed x k (address_state (state_in x k at)) (unmarked_one x i)
  calm_becomes =
      instr_code x k (state_in x k at) i (parts_left x is k at i there)
      ∙ calm_code x k (state_in x k at) i plain unwritten accesses begins

  pub gone_becomes : stays (marked x) i ≡ false → becomes (placed_layer x k) (state_in x k at) i ≡ []
  gone_becomes gone =
      calm_becomes ∙ ap (addressed x k (address_state (state_in x k at))) (unmarked_gone x i gone)

  pub same_becomes : stays (marked x) i ≡ true → without_promise_of i ≡ i
      → AreUnfetched (slot_table x) (instr_operands i) → lies_outside (offsets x) i ≡ true
      → becomes (placed_layer x k) (state_in x k at) i ≡ i ∷ []
  same_becomes stay same unplaced outside =
      calm_becomes
      ∙ ap (addressed x k (address_state (state_in x k at))) (unmarked_same x i stay same)
      ∙ addressed_same x k (address_state (state_in x k at)) i unplaced outside
