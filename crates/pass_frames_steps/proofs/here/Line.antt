-- What an instruction becomes that stands on a line of its own: its operands are fetched twice, and its result is
-- stored.
use Rattle.std.proofs.Common.{◌≡◌, ◌∷◌, ◌++◌, ◌∙◌, [], Bool, List, None, Option, Some, ap, append-nil, append_assoc, false, refl, sym, true, ℕ}
use Rattle.std.specs.Prelude.{slice_get}
use Rattle.pass_frames_code.proofs.ir_laws.facts.Members.{each_joined, each_turns}
use Rattle.pass_frames_code.specs.ir_model.declared.instr.Instr.{Instr}
use Rattle.pass_frames_code.specs.ir_model.declared.module.Module.{Module}
use Rattle.pass_frames_code.specs.ir_model.declared.operand.Callee.{Callee}
use Rattle.pass_frames_code.specs.ir_model.declared.operand.Intrinsic.{Intrinsic}
use Rattle.pass_frames_code.specs.ir_parts.Contents.{callee_operands, instr_operands, result_of}
use Rattle.pass_frames_code.specs.pass_addresses.Placing.{lies_outside, stays, without_promise_of}
use Rattle.pass_frames_code.specs.pass_cells.Cells.{fetches_of}
use Rattle.pass_frames_code.specs.pass_cells.Kept.{entry}
use Rattle.pass_frames_code.specs.pass_cells.Moves.{after_saved, saved_values}
use Rattle.pass_frames_code.specs.pass_cells.Written.{distance_behind, distance_from, distance_into, save_row, stored_at, stored_one, stored_result}
use Rattle.pass_frames_code.specs.pass_cells.declared.plan.KeptValue.{KeptValue}
use Rattle.pass_frames_code.specs.pass_copies.BeginCopies.{behind}
use Rattle.pass_frames_code.specs.pass_fetch.Fetching.{callee_by, fetch_of_callee, fetched_args, fetches_of_all, next_after_all}
use Rattle.pass_frames_code.specs.pass_fetch.Instrs.{with_fetched}
use Rattle.pass_frames_code.specs.pass_fetch.declared.fetch.Fetch.{Fetch}
use Rattle.pass_frames_code.proofs.code.Idle.{each_idle, only_idle}
use Rattle.pass_frames_code.proofs.layers.Grown.{both_becomes, grown_one}
use Rattle.pass_frames_code.proofs.layers.Idle.{all_stay, both_idle}
use Rattle.pass_frames_code.proofs.led.Front.{all_still}
use Rattle.pass_frames_code.specs.Code.{address_state, addressed, code_of, load_name, loaded, loads, located, past_addressed, saved, slot_table, stores, unmarked_one, write_name}
use Rattle.pass_frames_code.specs.Here.{IsLined}
use Rattle.pass_frames_code.specs.Layers.{IsIdle, Layer, each, only}
use Rattle.pass_frames_code.specs.Led.{IsStill}
use Rattle.pass_frames_code.specs.Lined.{GivesNone, gives_frame}
use Rattle.pass_frames_code.specs.Passes.{fetching_at, unmarked_at}
use Rattle.pass_frames_code.specs.Places.{Framing, Placed, addressing_layer, copies, marked, offsets, plan, unmarked}
use Rattle.pass_frames_code.specs.Stepping.{IsUnlocated, placed_front, placed_instr, placed_line}
use Rattle.pass_frames_code.specs.pass_front.Front.{is_no_alloca}
use Rattle.pass_frames_code.proofs.pass_proofs.fetch.rules.Times.{with_result}
use Rattle.pass_frames_code.specs.pass_renewed_proof.Renewed.{is_idle}
use Rattle.pass_frames_code.specs.run_laws.changed.Changed.{Each}
use Rattle.pass_frames_code.specs.run_step.Step.{AtInstr}

-- ---- tests that an instruction on a line of its own passes, whatever its operands

pub lined_fetched : (t : List (Option Fetch)) (n : ℕ) (i : Instr) → IsLined i → IsLined (with_fetched t n i)
lined_fetched t n (Instr.Binary r op flags ty a b) q = tt
lined_fetched t n (Instr.Icmp r pred ty a b) q = tt
lined_fetched t n (Instr.Select r k a b) q = tt
lined_fetched t n (Instr.Cast r op nneg a to) q = tt
lined_fetched t n (Instr.Alloca r ty align) q = absurd q
lined_fetched t n (Instr.Load r ty p align) q = tt
lined_fetched t n (Instr.Store a p align) q = tt
lined_fetched t n (Instr.Gep r inbounds ty p indices) q = tt
lined_fetched t n (Instr.Call r must_tail ty (Callee.Named name) args) q = tt
lined_fetched t n (Instr.Call r must_tail ty (Callee.Allocator name) args) q = tt
lined_fetched t n (Instr.Call r must_tail ty (Callee.Intrinsic name) args) q = q
lined_fetched t n (Instr.Call r must_tail ty (Callee.Local v) args) q = on (fetch_of_callee t (Callee.Local v))
  where
    on : (o : Option Fetch)
        → IsLined (Instr.Call r must_tail ty (callee_by n o (Callee.Local v))
        (fetched_args t (next_after_all t n (callee_operands (Callee.Local v))) args))
    on None = tt
    on (Some f) = tt

-- what passes leave of it
pub record IsLeft (x : Framing) (i : Instr) : Type 0 where
  pub row : save_row (plan x) i ≡ []
  pub behind_it : behind (copies x) i ≡ []
  pub stays_it : stays (marked x) i ≡ true
  pub same : without_promise_of i ≡ i
  pub outside : lies_outside (offsets x) i ≡ true
  pub no_alloca : is_no_alloca i ≡ true

pub left : (x : Framing) (i : Instr) → IsLined i → IsLeft x i
left x (Instr.Binary r op flags ty a b) q =
    record { row = refl; behind_it = refl; stays_it = refl; same = refl; outside = refl; no_alloca = refl }
left x (Instr.Icmp r pred ty a b) q =
    record { row = refl; behind_it = refl; stays_it = refl; same = refl; outside = refl; no_alloca = refl }
left x (Instr.Select r k a b) q =
    record { row = refl; behind_it = refl; stays_it = refl; same = refl; outside = refl; no_alloca = refl }
left x (Instr.Cast r op nneg a to) q =
    record { row = refl; behind_it = refl; stays_it = refl; same = refl; outside = refl; no_alloca = refl }
left x (Instr.Alloca r ty align) q = absurd q
left x (Instr.Load r ty p align) q =
    record { row = refl; behind_it = refl; stays_it = refl; same = refl; outside = refl; no_alloca = refl }
left x (Instr.Store a p align) q =
    record { row = refl; behind_it = refl; stays_it = refl; same = refl; outside = refl; no_alloca = refl }
left x (Instr.Gep r inbounds ty p indices) q =
    record { row = refl; behind_it = refl; stays_it = refl; same = refl; outside = refl; no_alloca = refl }
left x (Instr.Call None must_tail ty (Callee.Named n) args) q =
    record { row = refl; behind_it = refl; stays_it = refl; same = refl; outside = refl; no_alloca = refl }
left x (Instr.Call (Some r) must_tail ty (Callee.Named n) args) q =
    record { row = refl; behind_it = refl; stays_it = refl; same = refl; outside = refl; no_alloca = refl }
left x (Instr.Call None must_tail ty (Callee.Allocator n) args) q =
    record { row = refl; behind_it = refl; stays_it = refl; same = refl; outside = refl; no_alloca = refl }
left x (Instr.Call (Some r) must_tail ty (Callee.Allocator n) args) q =
    record { row = refl; behind_it = refl; stays_it = refl; same = refl; outside = refl; no_alloca = refl }
left x (Instr.Call None must_tail ty (Callee.Local n) args) q =
    record { row = refl; behind_it = refl; stays_it = refl; same = refl; outside = refl; no_alloca = refl }
left x (Instr.Call (Some r) must_tail ty (Callee.Local n) args) q =
    record { row = refl; behind_it = refl; stays_it = refl; same = refl; outside = refl; no_alloca = refl }
left x (Instr.Call None must_tail ty (Callee.Intrinsic Intrinsic.CoroId) args) q = absurd q
left x (Instr.Call None must_tail ty (Callee.Intrinsic Intrinsic.CoroBegin) args) q = absurd q
left x (Instr.Call None must_tail ty (Callee.Intrinsic Intrinsic.CoroSave) args) q = absurd q
left x (Instr.Call None must_tail ty (Callee.Intrinsic Intrinsic.LifetimeStart) args) q = absurd q
left x (Instr.Call None must_tail ty (Callee.Intrinsic Intrinsic.LifetimeEnd) args) q = absurd q
left x (Instr.Call None must_tail ty (Callee.Intrinsic _) args) q =
    record { row = refl; behind_it = refl; stays_it = refl; same = refl; outside = refl; no_alloca = refl }
left x (Instr.Call (Some r) must_tail ty (Callee.Intrinsic Intrinsic.CoroId) args) q = absurd q
left x (Instr.Call (Some r) must_tail ty (Callee.Intrinsic Intrinsic.CoroBegin) args) q = absurd q
left x (Instr.Call (Some r) must_tail ty (Callee.Intrinsic Intrinsic.CoroSave) args) q = absurd q
left x (Instr.Call (Some r) must_tail ty (Callee.Intrinsic Intrinsic.LifetimeStart) args) q = absurd q
left x (Instr.Call (Some r) must_tail ty (Callee.Intrinsic Intrinsic.LifetimeEnd) args) q = absurd q
left x (Instr.Call (Some r) must_tail ty (Callee.Intrinsic _) args) q =
    record { row = refl; behind_it = refl; stays_it = refl; same = refl; outside = refl; no_alloca = refl }

-- ---- stores

pub still_no_alloca : (i : Instr) → IsStill i → is_no_alloca i ≡ true
still_no_alloca (Instr.Load r ty p align) s = refl
still_no_alloca (Instr.Gep r inbounds ty p indices) s = refl
still_no_alloca _ s = absurd s

pub stored_no_alloca : (x : Framing) (o : Option ℕ) → Each (λ (j : Instr). is_no_alloca j
    ≡ true) (stored_result (plan x) o)
stored_no_alloca x None = tt
stored_no_alloca x (Some v) = by_place (entry (plan x).places v)
  where
    by_kept : (o : Option KeptValue) → Each (λ (j : Instr). is_no_alloca j ≡ true) (stored_one v o)
    by_kept None = tt
    by_kept (Some k) = (refl, tt)

    by_place : (o : Option ℕ) → Each (λ (j : Instr). is_no_alloca j ≡ true) (stored_at (plan x).kept v o)
    by_place None = tt
    by_place (Some at) = by_kept (slice_get (plan x).kept at)

-- no distance is summed
pub unmeasured : (x : Framing) (n : ℕ) (i : Instr) → ((r : ℕ) → result_of i ≡ Some r → entry (plan x).cells r ≡ None)
    → distance_behind x.code (plan x) n i ≡ []
unmeasured x n (Instr.Gep r inbounds ty base indices) h =
    ap (λ (o : Option ℕ). distance_into x.code (distance_from (plan x) r) n o ty indices) (h r refl)
unmeasured x n (Instr.Binary r op flags ty a b) h = refl
unmeasured x n (Instr.Icmp r pred ty a b) h = refl
unmeasured x n (Instr.Select r c a b) h = refl
unmeasured x n (Instr.Cast r op nneg a to) h = refl
unmeasured x n (Instr.Alloca r ty align) h = refl
unmeasured x n (Instr.Load r ty y align) h = refl
unmeasured x n (Instr.Store a y align) h = refl
unmeasured x n (Instr.Call r must_tail ty c args) h = refl

-- ---- all of it

module _ (x : Framing) (k : ℕ) (n : Placed) (i : Instr) (q : IsLined i) (u : IsUnlocated x n i)
    (plain : (r : ℕ) → result_of i ≡ Some r → entry (plan x).cells r ≡ None) where
  abbrev one : Instr
  one = loaded x n i

  one_lined : IsLined one
  one_lined = lined_fetched (fetches_of (plan x)) (load_name n) i q

  one_left : IsLeft x one
  one_left = left x one one_lined

  result_same : result_of one ≡ result_of i
  result_same = with_result (fetches_of (plan x)) (load_name n) i

  saved_none : saved x n i ≡ []
  saved_none = ap (λ (row : List ℕ). saved_values (plan x).kept (write_name n) row) one_left.row

  stores_are : stores x n i ≡ stored_result (plan x) (result_of i)
  stores_are =
      (λ j. stored_result (plan x) (result_same j)
      ++ unmeasured x (after_saved (write_name n) (save_row (plan x) one)) one
      (λ r e. plain r (sym result_same ∙ e)) j)
      ∙ append-nil (stored_result (plan x) (result_of i))

  unmarked_is : unmarked_one x (located x n i) ≡ one ∷ []
  unmarked_is =
      ap (unmarked_one x) u.located
      ∙ all_stay (unmarked_at (marked x)) (one ∷ []) (
        both_idle (only (stays (marked x))) (each without_promise_of) one
            (only_idle (stays (marked x)) one one_left.stays_it) (each_idle without_promise_of one one_left.same),
        tt,
      )
      (tt, tt)

  abbrev M : ℕ
  M = (address_state n).0

  abbrev A : Layer ℕ
  A = fetching_at (unmarked x) (slot_table x) k

  abbrev B : Layer (Unit {0})
  B = only (lies_outside (offsets x))

  abbrev last : Instr
  last = placed_instr x n i

  front_stays : (j : Instr) → IsStill j → IsIdle (only (lies_outside (offsets x))) j
  front_stays (Instr.Load r ty p align) s = only_idle (lies_outside (offsets x)) (Instr.Load r ty p align) refl
  front_stays (Instr.Gep r inbounds ty p indices) s =
      only_idle (lies_outside (offsets x)) (Instr.Gep r inbounds ty p indices) refl
  front_stays _ s = absurd s

  last_left : IsLeft x last
  last_left = left x last (lined_fetched (slot_table x) M one one_lined)

  addressed_is : addressed x k (address_state n) (one ∷ [])
      ≡ fetches_of_all (slot_table x) M (instr_operands one) ++ (last ∷ [])
  addressed_is =
      grown_one (addressing_layer x k) (address_state n) one
      ∙ both_becomes A B M (address_state n).1 one
      ∙ all_stay B (fetches_of_all (slot_table x) M (instr_operands one) ++ (last ∷ []))
      (each_joined (IsIdle B) (fetches_of_all (slot_table x) M (instr_operands one)) (last ∷ [])
      (each_turns IsStill (IsIdle B) front_stays (fetches_of_all (slot_table x) M (instr_operands one))
      (all_still (slot_table x) M (instr_operands one)))
      (only_idle (lies_outside (offsets x)) last last_left.outside, tt))
      (address_state n).1

  -- nothing else stands there
  shaped : (a b c e : List Instr) → a ++ ([] ++ ([] ++ ((b ++ c) ++ ([] ++ e)))) ≡ (a ++ b) ++ (c ++ e)
  shaped a b c e = simp append_assoc

  pub line_is : code_of x k n i ≡ placed_line x n i
  line_is =
      (λ j. loads x n i
      ++ (addressed x k (address_state n) (saved_none j)
      ++ (u.wheres j
      ++ (addressed x k (past_addressed x k (address_state n) (saved_none j)) (unmarked_is j)
      ++ (addressed x k
      (past_addressed x k (past_addressed x k (address_state n) (saved_none j)) (unmarked_is j))
      (one_left.behind_it j) ++ stores_are j)))))
      ∙ ap (λ (xs : List Instr). loads x n i ++ ([] ++ ([] ++ (xs ++ ([] ++ stored_result (plan x) (result_of i))))))
      addressed_is
      ∙ shaped (loads x n i) (fetches_of_all (slot_table x) M (instr_operands one)) (last ∷ [])
      (stored_result (plan x) (result_of i))

  -- and no alloca
  pub line_no_alloca : Each (λ (j : Instr). is_no_alloca j ≡ true) (placed_line x n i)
  line_no_alloca =
      each_joined (λ (j : Instr). is_no_alloca j ≡ true) (placed_front x n i) (last ∷ stored_result (plan x)
      (result_of i))
      (each_turns IsStill (λ (j : Instr). is_no_alloca j ≡ true) still_no_alloca (placed_front x n i)
      (each_joined IsStill (loads x n i) (fetches_of_all (slot_table x) M (instr_operands one))
      (all_still (fetches_of (plan x)) (load_name n) (instr_operands i))
      (all_still (slot_table x) M (instr_operands one))))
      (last_left.no_alloca, stored_no_alloca x (result_of i))

-- ---- calls which give a frame, and markers

pub gives_fetched : (m : Module) (t : List (Option Fetch)) (n : ℕ) (i : Instr) → IsLined i
    → gives_frame m (with_fetched t n i) ≡ gives_frame m i
gives_fetched m t n (Instr.Binary r op flags ty a b) q = refl
gives_fetched m t n (Instr.Icmp r pred ty a b) q = refl
gives_fetched m t n (Instr.Select r k a b) q = refl
gives_fetched m t n (Instr.Cast r op nneg a to) q = refl
gives_fetched m t n (Instr.Alloca r ty align) q = absurd q
gives_fetched m t n (Instr.Load r ty p align) q = refl
gives_fetched m t n (Instr.Store a p align) q = refl
gives_fetched m t n (Instr.Gep r inbounds ty p indices) q = refl
gives_fetched m t n (Instr.Call r must_tail ty (Callee.Named name) args) q = refl
gives_fetched m t n (Instr.Call r must_tail ty (Callee.Allocator name) args) q = refl
gives_fetched m t n (Instr.Call r must_tail ty (Callee.Intrinsic name) args) q = refl
gives_fetched m t n (Instr.Call r must_tail ty (Callee.Local v) args) q = on (fetch_of_callee t (Callee.Local v))
  where
    on : (o : Option Fetch)
        → gives_frame m (Instr.Call r must_tail ty (callee_by n o (Callee.Local v))
        (fetched_args t (next_after_all t n (callee_operands (Callee.Local v))) args)) ≡ false
    on None = refl
    on (Some f) = refl

pub still_gives : (m : Module) (i : Instr) → IsStill i → GivesNone m i
still_gives m (Instr.Load r ty p align) s = refl
still_gives m (Instr.Gep r inbounds ty p indices) s = refl
still_gives m _ s = absurd s

pub stored_gives : (m : Module) (x : Framing) (o : Option ℕ) → Each (GivesNone m) (stored_result (plan x) o)
stored_gives m x None = tt
stored_gives m x (Some v) = by_place (entry (plan x).places v)
  where
    by_kept : (o : Option KeptValue) → Each (GivesNone m) (stored_one v o)
    by_kept None = tt
    by_kept (Some k) = (refl, tt)

    by_place : (o : Option ℕ) → Each (GivesNone m) (stored_at (plan x).kept v o)
    by_place None = tt
    by_place (Some at) = by_kept (slice_get (plan x).kept at)

pub line_gives : (x : Framing) (n : Placed) (i : Instr) → IsLined i → (m : Module) → GivesNone m i
    → Each (GivesNone m) (placed_line x n i)
line_gives x n i q m none =
    each_joined (GivesNone m) (placed_front x n i) (placed_instr x n i ∷ stored_result (plan x) (result_of i))
    (each_turns IsStill (GivesNone m) (still_gives m) (placed_front x n i)
    (each_joined IsStill (loads x n i)
    (fetches_of_all (slot_table x) (address_state n).0 (instr_operands (loaded x n i)))
    (all_still (fetches_of (plan x)) (load_name n) (instr_operands i))
    (all_still (slot_table x) (address_state n).0 (instr_operands (loaded x n i))))) (
      gives_fetched m (slot_table x) (address_state n).0 (loaded x n i)
          (lined_fetched (fetches_of (plan x)) (load_name n) i q)
          ∙ gives_fetched m (fetches_of (plan x)) (load_name n) i q
          ∙ none,
      stored_gives m x (result_of i),
    )

pub never_idle : (flags : ℕ → Bool) (i : Instr) → IsLined i → is_idle flags (AtInstr i) ≡ false
never_idle flags (Instr.Binary r op fs ty a b) q = refl
never_idle flags (Instr.Icmp r pred ty a b) q = refl
never_idle flags (Instr.Select r k a b) q = refl
never_idle flags (Instr.Cast r op nneg a to) q = refl
never_idle flags (Instr.Alloca r ty align) q = absurd q
never_idle flags (Instr.Load r ty p align) q = refl
never_idle flags (Instr.Store a p align) q = refl
never_idle flags (Instr.Gep r inbounds ty p indices) q = refl
never_idle flags (Instr.Call r must_tail ty (Callee.Named name) args) q = refl
never_idle flags (Instr.Call r must_tail ty (Callee.Allocator name) args) q = refl
never_idle flags (Instr.Call r must_tail ty (Callee.Intrinsic Intrinsic.LifetimeStart) args) q = absurd q
never_idle flags (Instr.Call r must_tail ty (Callee.Intrinsic Intrinsic.LifetimeEnd) args) q = absurd q
never_idle flags (Instr.Call r must_tail ty (Callee.Intrinsic _) args) q = refl
never_idle flags (Instr.Call r must_tail ty (Callee.Local name) args) q = refl
