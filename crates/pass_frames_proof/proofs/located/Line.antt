-- What an access before begin becomes: kept operands are loaded, then addresses from their cells, and then addresses of
-- slots in the frame are made; behind it its result is stored.
use Rattle.std.proofs.Common.{◌≡◌, ◌∷◌, ◌++◌, ◌∙◌, [], Bool, List, None, Some, ap, append-nil, append_assoc, false}
use Rattle.std.proofs.Common.{refl, sym, true, ℕ}
use Rattle.std.specs.Prelude.{if◌then◌else◌, ◌&&◌}
use Rattle.pass_frames_steps.proofs.ir_laws.facts.Members.{each_joined, each_turns}
use Rattle.pass_frames_steps.specs.ir_model.declared.instr.Instr.{Instr}
use Rattle.pass_frames_steps.specs.ir_model.declared.module.Module.{Module}
use Rattle.pass_frames_steps.specs.ir_parts.Contents.{instr_operands, result_of}
use Rattle.pass_frames_steps.specs.pass_addresses.Placing.{lies_outside, stays, without_promise_of}
use Rattle.pass_frames_steps.specs.pass_cells.Cells.{fetches_of}
use Rattle.pass_frames_steps.specs.pass_cells.Kept.{entry}
use Rattle.pass_frames_steps.specs.pass_cells.Moves.{after_saved, saved_values}
use Rattle.pass_frames_steps.specs.pass_cells.Written.{save_row, stored_result}
use Rattle.pass_frames_steps.specs.pass_copies.Uses.{is_access}
use Rattle.pass_frames_steps.specs.pass_fetch.Fetching.{fetches_of_all}
use Rattle.pass_frames_steps.specs.pass_fetch.Instrs.{with_fetched}
use Rattle.pass_frames_steps.proofs.code.Idle.{each_idle, only_idle}
use Rattle.pass_frames_proof.proofs.early.Unlocated.{access_same}
use Rattle.pass_frames_steps.proofs.here.Line.{IsLeft, gives_fetched, left, lined_fetched, still_gives}
use Rattle.pass_frames_steps.proofs.here.Line.{still_no_alloca, stored_gives, stored_no_alloca, unmeasured}
use Rattle.pass_frames_steps.proofs.layers.Grown.{both_becomes, grown_one}
use Rattle.pass_frames_steps.proofs.layers.Idle.{all_stay, both_idle}
use Rattle.pass_frames_steps.proofs.led.Front.{all_still}
use Rattle.pass_frames_steps.specs.Code.{address_state, addressed, code_of, is_ahead, load_name, loaded, loads}
use Rattle.pass_frames_steps.specs.Code.{located, past_addressed, saved, slot_table, stores, unmarked_one, where_name}
use Rattle.pass_frames_steps.specs.Code.{wheres, write_name}
use Rattle.pass_frames_steps.specs.Here.{IsLined}
use Rattle.pass_frames_steps.specs.Layers.{IsIdle, Layer, each, only}
use Rattle.pass_frames_steps.specs.Led.{IsStill}
use Rattle.pass_frames_steps.specs.Lined.{GivesNone}
use Rattle.pass_frames_steps.specs.Located.{addressed_instr, located_front, located_instr, located_line, where_table}
use Rattle.pass_frames_steps.specs.Passes.{fetching_at, unmarked_at}
use Rattle.pass_frames_steps.specs.Places.{Framing, Placed, marked, offsets, plan, unmarked}
use Rattle.pass_frames_steps.specs.Places.{addressing_layer}
use Rattle.pass_frames_steps.specs.pass_front.Front.{is_no_alloca}
use Rattle.pass_frames_steps.proofs.pass_proofs.fetch.rules.Times.{with_result}
use Rattle.pass_frames_steps.specs.run_laws.changed.Changed.{Each}

-- both flags are set
both_set : {A : Type 0} (p q : Bool) (y z : A) → p ≡ true → q ≡ true → (if p && q then y else z) ≡ y
both_set true q y z e f = ap (λ (k : Bool). if k then y else z) f
both_set false q y z e f = absurd (cc)

module _ (x : Framing) (n : Placed) (i : Instr) (ahead : is_ahead n ≡ true) (access : is_access i ≡ true) where
  abbrev l : Instr
  l = loaded x n i

  loaded_access : is_access l ≡ true
  loaded_access = access_same (fetches_of (plan x)) (load_name n) i ∙ access

  pub wheres_are : wheres x n i ≡ fetches_of_all (where_table x) (where_name n) (instr_operands (loaded x n i))
  wheres_are =
      both_set (is_ahead n) (is_access l) (fetches_of_all (where_table x) (where_name n) (instr_operands l)) [] ahead
      loaded_access

  pub located_is : located x n i ≡ addressed_instr x n i
  located_is =
      both_set (is_ahead n) (is_access l) (with_fetched (where_table x) (where_name n) l) l ahead loaded_access

module _ (x : Framing) (k : ℕ) (n : Placed) (i : Instr) (q : IsLined i) (ahead : is_ahead n ≡ true)
    (access : is_access i ≡ true) (plain : (r : ℕ) → result_of i ≡ Some r → entry (plan x).cells r ≡ None) where
  abbrev one : Instr
  one = loaded x n i

  abbrev two : Instr
  two = addressed_instr x n i

  abbrev W : List Instr
  W = fetches_of_all (where_table x) (where_name n) (instr_operands one)

  one_lined : IsLined one
  one_lined = lined_fetched (fetches_of (plan x)) (load_name n) i q

  two_lined : IsLined two
  two_lined = lined_fetched (where_table x) (where_name n) one one_lined

  one_left : IsLeft x one
  one_left = left x one one_lined

  two_left : IsLeft x two
  two_left = left x two two_lined

  result_same : result_of one ≡ result_of i
  result_same = with_result (fetches_of (plan x)) (load_name n) i

  saved_none : saved x n i ≡ []
  saved_none = ap (λ (row : List ℕ). saved_values (plan x).kept (write_name n) row) one_left.row

  stores_are : stores x n i ≡ stored_result (plan x) (result_of i)
  stores_are =
      (λ j. stored_result (plan x) (result_same j)
      ++ unmeasured x (after_saved (write_name n) (save_row (plan x) one)) one
      (λ r e. plain r (sym result_same ∙ e)) j)
      ∙ append-nil (stored_result (plan x) (result_of i))

  unmarked_is : unmarked_one x (located x n i) ≡ two ∷ []
  unmarked_is =
      ap (unmarked_one x) (located_is x n i ahead access)
      ∙ all_stay (unmarked_at (marked x)) (two ∷ []) (
        both_idle (only (stays (marked x))) (each without_promise_of) two
            (only_idle (stays (marked x)) two two_left.stays_it) (each_idle without_promise_of two two_left.same),
        tt,
      )
      (tt, tt)

  abbrev M : ℕ
  M = (address_state n).0

  abbrev A : Layer ℕ
  A = fetching_at (unmarked x) (slot_table x) k

  abbrev B : Layer (Unit {0})
  B = only (lies_outside (offsets x))

  abbrev last : Instr
  last = located_instr x n i

  front_stays : (j : Instr) → IsStill j → IsIdle (only (lies_outside (offsets x))) j
  front_stays (Instr.Load r ty p align) s = only_idle (lies_outside (offsets x)) (Instr.Load r ty p align) refl
  front_stays (Instr.Gep r inbounds ty p indices) s =
      only_idle (lies_outside (offsets x)) (Instr.Gep r inbounds ty p indices) refl
  front_stays _ s = absurd s

  last_lined : IsLined last
  last_lined = lined_fetched (slot_table x) M two two_lined

  last_left : IsLeft x last
  last_left = left x last last_lined

  addressed_is : addressed x k (address_state n) (two ∷ [])
      ≡ fetches_of_all (slot_table x) M (instr_operands two) ++ (last ∷ [])
  addressed_is =
      grown_one (addressing_layer x k) (address_state n) two
      ∙ both_becomes A B M (address_state n).1 two
      ∙ all_stay B (fetches_of_all (slot_table x) M (instr_operands two) ++ (last ∷ []))
      (each_joined (IsIdle B) (fetches_of_all (slot_table x) M (instr_operands two)) (last ∷ [])
      (each_turns IsStill (IsIdle B) front_stays (fetches_of_all (slot_table x) M (instr_operands two))
      (all_still (slot_table x) M (instr_operands two)))
      (only_idle (lies_outside (offsets x)) last last_left.outside, tt))
      (address_state n).1

  -- nothing else stands there
  shaped : (a w b c e : List Instr) → a ++ ([] ++ (w ++ ((b ++ c) ++ ([] ++ e)))) ≡ (a ++ (w ++ b)) ++ (c ++ e)
  shaped a w b c e = simp append_assoc

  pub line_is : code_of x k n i ≡ located_line x n i
  line_is =
      (λ j. loads x n i
      ++ (addressed x k (address_state n) (saved_none j)
      ++ (wheres_are x n i ahead access j
      ++ (addressed x k (past_addressed x k (address_state n) (saved_none j)) (unmarked_is j)
      ++ (addressed x k
      (past_addressed x k (past_addressed x k (address_state n) (saved_none j)) (unmarked_is j))
      (one_left.behind_it j) ++ stores_are j)))))
      ∙ ap (λ (xs : List Instr). loads x n i ++ ([] ++ (W ++ (xs ++ ([] ++ stored_result (plan x) (result_of i))))))
      addressed_is
      ∙ shaped (loads x n i) W (fetches_of_all (slot_table x) M (instr_operands two)) (last ∷ [])
      (stored_result (plan x) (result_of i))

  pub front_still : Each IsStill (located_front x n i)
  front_still =
      each_joined IsStill (loads x n i) (W ++ fetches_of_all (slot_table x) M (instr_operands two))
      (all_still (fetches_of (plan x)) (load_name n) (instr_operands i))
      (each_joined IsStill W (fetches_of_all (slot_table x) M (instr_operands two))
      (all_still (where_table x) (where_name n) (instr_operands one))
      (all_still (slot_table x) M (instr_operands two)))

  -- and no alloca
  pub line_no_alloca : Each (λ (j : Instr). is_no_alloca j ≡ true) (located_line x n i)
  line_no_alloca =
      each_joined (λ (j : Instr). is_no_alloca j ≡ true) (located_front x n i) (last ∷ stored_result (plan x)
      (result_of i))
      (each_turns IsStill (λ (j : Instr). is_no_alloca j ≡ true) still_no_alloca (located_front x n i) front_still)
      (last_left.no_alloca, stored_no_alloca x (result_of i))

  -- nor a call which gives a frame
  pub line_gives : (m : Module) → GivesNone m i → Each (GivesNone m) (located_line x n i)
  line_gives m none =
      each_joined (GivesNone m) (located_front x n i) (last ∷ stored_result (plan x) (result_of i))
      (each_turns IsStill (GivesNone m) (still_gives m) (located_front x n i) front_still) (
        gives_fetched m (slot_table x) M two two_lined
            ∙ gives_fetched m (where_table x) (where_name n) one one_lined
            ∙ gives_fetched m (fetches_of (plan x)) (load_name n) i q
            ∙ none,
        stored_gives m x (result_of i),
      )
