-- What an ordinary instruction becomes: its operands are fetched twice, and its result is stored.
use Rattle.std.proofs.Common.{◌≡◌, ℕ, Bool, true, false, List, [], ◌∷◌, ◌++◌, refl, sym, ap, ◌∙◌, subst, append-nil}
use Rattle.std.specs.Prelude.{None, Option, Some, slice_get}
use Rattle.pass_proofs.proofs.ir_laws.facts.Members.{each_joined, each_turns}
use Rattle.pass_proofs.specs.ir_model.declared.instr.Instr.{Instr}
use Rattle.pass_proofs.specs.ir_model.declared.module.Module.{Module}
use Rattle.pass_proofs.specs.ir_model.declared.operand.Callee.{Callee}
use Rattle.pass_proofs.specs.ir_parts.Contents.{instr_operands, result_of}
use Rattle.pass_proofs.specs.pass_cells.Cells.{fetches_of}
use Rattle.pass_proofs.specs.pass_cells.Kept.{entry}
use Rattle.pass_proofs.specs.pass_cells.Moves.{after_saved}
use Rattle.pass_proofs.specs.pass_cells.Written.{distance_behind, distance_from, distance_into, save_row, stored_at, stored_one, stored_result}
use Rattle.pass_proofs.specs.pass_cells.declared.plan.KeptValue.{KeptValue}
use Rattle.pass_proofs.specs.pass_fetch.Fetching.{fetches_of_all}
use Rattle.pass_proofs.specs.pass_fetch.Instrs.{with_fetched}
use Rattle.pass_proofs.specs.pass_fetch.declared.fetch.Fetch.{Fetch}
use Rattle.pass_frames_code.proofs.led.Front.{all_still}
use Rattle.pass_frames_code.proofs.stepping.Alone.{alone_is, alone_no_alloca}
use Rattle.pass_frames_code.specs.Code.{address_state, code_of, load_name, loaded, loads, slot_table, stores, write_name}
use Rattle.pass_frames_code.specs.Led.{IsStill, LeavesMemory}
use Rattle.pass_frames_code.specs.Operands.{IsLeftAlone}
use Rattle.pass_frames_code.specs.Lined.{GivesNone, gives_frame}
use Rattle.pass_frames_code.specs.Places.{Framing, Placed, plan}
use Rattle.pass_frames_code.specs.Stepping.{IsCommon, IsUnlocated, placed_front, placed_instr, placed_line}
use Rattle.pass_proofs.specs.pass_front.Front.{is_no_alloca}
use Rattle.pass_proofs.proofs.fetch.rules.Times.{with_result}
use Rattle.pass_renewed_proof.specs.Renewed.{is_idle}
use Rattle.pass_proofs.specs.run_laws.changed.Changed.{Each}
use Rattle.pass_proofs.specs.run_step.Step.{AtInstr, Context}

-- ---- tests that an ordinary instruction passes, whatever its operands

pub common : (c : Context) (i : Instr) → LeavesMemory c i → IsCommon i
common c (Instr.Binary r op flags ty a b) q = tt
common c (Instr.Icmp r pred ty a b) q = tt
common c (Instr.Select r k a b) q = tt
common c (Instr.Cast r op nneg a to) q = tt
common c (Instr.Alloca r ty align) q = absurd q
common c (Instr.Load r ty p align) q = tt
common c (Instr.Store a p align) q = tt
common c (Instr.Gep r inbounds ty p indices) q = tt
common c (Instr.Call r must_tail ty (Callee.Named n) args) q = tt
common c (Instr.Call r must_tail ty (Callee.Allocator n) args) q = absurd q
common c (Instr.Call r must_tail ty (Callee.Intrinsic n) args) q = absurd q
common c (Instr.Call r must_tail ty (Callee.Local n) args) q = absurd q

pub common_fetched : (t : List (Option Fetch)) (n : ℕ) (i : Instr) → IsCommon i → IsCommon (with_fetched t n i)
common_fetched t n (Instr.Binary r op flags ty a b) q = tt
common_fetched t n (Instr.Icmp r pred ty a b) q = tt
common_fetched t n (Instr.Select r k a b) q = tt
common_fetched t n (Instr.Cast r op nneg a to) q = tt
common_fetched t n (Instr.Alloca r ty align) q = absurd q
common_fetched t n (Instr.Load r ty p align) q = tt
common_fetched t n (Instr.Store a p align) q = tt
common_fetched t n (Instr.Gep r inbounds ty p indices) q = tt
common_fetched t n (Instr.Call r must_tail ty (Callee.Named name) args) q = tt
common_fetched t n (Instr.Call r must_tail ty (Callee.Allocator name) args) q = absurd q
common_fetched t n (Instr.Call r must_tail ty (Callee.Intrinsic name) args) q = absurd q
common_fetched t n (Instr.Call r must_tail ty (Callee.Local name) args) q = absurd q

-- a call of an intrinsic alone is put aside
pub left : (x : Framing) (i : Instr) → IsCommon i → IsLeftAlone x i
left x (Instr.Binary r op flags ty a b) q =
    record { row = refl; behind_it = refl; stays_it = refl; same = refl; outside = refl; no_alloca = refl }
left x (Instr.Icmp r pred ty a b) q =
    record { row = refl; behind_it = refl; stays_it = refl; same = refl; outside = refl; no_alloca = refl }
left x (Instr.Select r k a b) q =
    record { row = refl; behind_it = refl; stays_it = refl; same = refl; outside = refl; no_alloca = refl }
left x (Instr.Cast r op nneg a to) q =
    record { row = refl; behind_it = refl; stays_it = refl; same = refl; outside = refl; no_alloca = refl }
left x (Instr.Alloca r ty align) q = absurd q
left x (Instr.Load r ty p align) q =
    record { row = refl; behind_it = refl; stays_it = refl; same = refl; outside = refl; no_alloca = refl }
left x (Instr.Store a p align) q =
    record { row = refl; behind_it = refl; stays_it = refl; same = refl; outside = refl; no_alloca = refl }
left x (Instr.Gep r inbounds ty p indices) q =
    record { row = refl; behind_it = refl; stays_it = refl; same = refl; outside = refl; no_alloca = refl }
left x (Instr.Call None must_tail ty (Callee.Named n) args) q =
    record { row = refl; behind_it = refl; stays_it = refl; same = refl; outside = refl; no_alloca = refl }
left x (Instr.Call (Some r) must_tail ty (Callee.Named n) args) q =
    record { row = refl; behind_it = refl; stays_it = refl; same = refl; outside = refl; no_alloca = refl }
left x (Instr.Call r must_tail ty (Callee.Allocator n) args) q = absurd q
left x (Instr.Call r must_tail ty (Callee.Intrinsic n) args) q = absurd q
left x (Instr.Call r must_tail ty (Callee.Local n) args) q = absurd q

-- ---- stores

pub stored_no_alloca : (x : Framing) (o : Option ℕ) → Each (λ (j : Instr). is_no_alloca j
    ≡ true) (stored_result (plan x) o)
stored_no_alloca x None = tt
stored_no_alloca x (Some v) = by_place (entry (plan x).places v)
  where
    by_kept : (o : Option KeptValue) → Each (λ (j : Instr). is_no_alloca j ≡ true) (stored_one v o)
    by_kept None = tt
    by_kept (Some k) = (refl, tt)

    by_place : (o : Option ℕ) → Each (λ (j : Instr). is_no_alloca j ≡ true) (stored_at (plan x).kept v o)
    by_place None = tt
    by_place (Some at) = by_kept (slice_get (plan x).kept at)

-- no distance is summed
pub unmeasured : (x : Framing) (n : ℕ) (i : Instr) → ((r : ℕ) → result_of i ≡ Some r → entry (plan x).cells r ≡ None)
    → distance_behind x.code (plan x) n i ≡ []
unmeasured x n (Instr.Gep r inbounds ty base indices) h =
    ap (λ (o : Option ℕ). distance_into x.code (distance_from (plan x) r) n o ty indices) (h r refl)
unmeasured x n (Instr.Binary r op flags ty a b) h = refl
unmeasured x n (Instr.Icmp r pred ty a b) h = refl
unmeasured x n (Instr.Select r c a b) h = refl
unmeasured x n (Instr.Cast r op nneg a to) h = refl
unmeasured x n (Instr.Alloca r ty align) h = refl
unmeasured x n (Instr.Load r ty y align) h = refl
unmeasured x n (Instr.Store a y align) h = refl
unmeasured x n (Instr.Call r must_tail ty c args) h = refl

-- ---- all of it

module _ (x : Framing) (k : ℕ) (n : Placed) (i : Instr) (q : IsCommon i) (u : IsUnlocated x n i)
    (plain : (r : ℕ) → result_of i ≡ Some r → entry (plan x).cells r ≡ None) where
  abbrev one : Instr
  one = loaded x n i

  abbrev last : Instr
  last = placed_instr x n i

  one_common : IsCommon one
  one_common = common_fetched (fetches_of (plan x)) (load_name n) i q

  one_left : IsLeftAlone x one
  one_left = left x one one_common

  last_left : IsLeftAlone x last
  last_left = left x last (common_fetched (slot_table x) (address_state n).0 one one_common)

  result_same : result_of one ≡ result_of i
  result_same = with_result (fetches_of (plan x)) (load_name n) i

  stores_are : stores x n i ≡ stored_result (plan x) (result_of i)
  stores_are =
      (λ j. stored_result (plan x) (result_same j)
      ++ unmeasured x (after_saved (write_name n) (save_row (plan x) one)) one
      (λ r e. plain r (sym result_same ∙ e)) j)
      ∙ append-nil (stored_result (plan x) (result_of i))

  pub line_is : code_of x k n i ≡ placed_line x n i
  line_is =
      alone_is x k n i one_left last_left u ∙ ap (λ (xs : List Instr). placed_front x n i ++ (last ∷ xs)) stores_are

  -- and no alloca
  pub line_no_alloca : Each (λ (j : Instr). is_no_alloca j ≡ true) (placed_line x n i)
  line_no_alloca =
      subst (λ (xs : List Instr). Each (λ (j : Instr). is_no_alloca j ≡ true) (placed_front x n i ++ (last ∷ xs)))
      stores_are
      (alone_no_alloca x k n i one_left last_left u
      (subst (Each (λ (j : Instr). is_no_alloca j ≡ true)) (sym stores_are) (stored_no_alloca x (result_of i))))

-- ---- calls which give a frame, and markers

gives_fetched : (m : Module) (t : List (Option Fetch)) (n : ℕ) (i : Instr) → IsCommon i
    → gives_frame m (with_fetched t n i) ≡ gives_frame m i
gives_fetched m t n (Instr.Binary r op flags ty a b) q = refl
gives_fetched m t n (Instr.Icmp r pred ty a b) q = refl
gives_fetched m t n (Instr.Select r k a b) q = refl
gives_fetched m t n (Instr.Cast r op nneg a to) q = refl
gives_fetched m t n (Instr.Alloca r ty align) q = absurd q
gives_fetched m t n (Instr.Load r ty p align) q = refl
gives_fetched m t n (Instr.Store a p align) q = refl
gives_fetched m t n (Instr.Gep r inbounds ty p indices) q = refl
gives_fetched m t n (Instr.Call r must_tail ty (Callee.Named name) args) q = refl
gives_fetched m t n (Instr.Call r must_tail ty (Callee.Allocator name) args) q = absurd q
gives_fetched m t n (Instr.Call r must_tail ty (Callee.Intrinsic name) args) q = absurd q
gives_fetched m t n (Instr.Call r must_tail ty (Callee.Local name) args) q = absurd q

still_gives : (m : Module) (i : Instr) → IsStill i → GivesNone m i
still_gives m (Instr.Load r ty p align) s = refl
still_gives m (Instr.Gep r inbounds ty p indices) s = refl
still_gives m _ s = absurd s

pub stored_gives : (m : Module) (x : Framing) (o : Option ℕ) → Each (GivesNone m) (stored_result (plan x) o)
stored_gives m x None = tt
stored_gives m x (Some v) = by_place (entry (plan x).places v)
  where
    by_kept : (o : Option KeptValue) → Each (GivesNone m) (stored_one v o)
    by_kept None = tt
    by_kept (Some k) = (refl, tt)

    by_place : (o : Option ℕ) → Each (GivesNone m) (stored_at (plan x).kept v o)
    by_place None = tt
    by_place (Some at) = by_kept (slice_get (plan x).kept at)

pub line_gives : (x : Framing) (n : Placed) (i : Instr) → IsCommon i → (m : Module) → GivesNone m i
    → Each (GivesNone m) (placed_line x n i)
line_gives x n i q m none =
    each_joined (GivesNone m) (placed_front x n i) (placed_instr x n i ∷ stored_result (plan x) (result_of i))
    (each_turns IsStill (GivesNone m) (still_gives m) (placed_front x n i)
    (each_joined IsStill (loads x n i)
    (fetches_of_all (slot_table x) (address_state n).0 (instr_operands (loaded x n i)))
    (all_still (fetches_of (plan x)) (load_name n) (instr_operands i))
    (all_still (slot_table x) (address_state n).0 (instr_operands (loaded x n i))))) (
      gives_fetched m (slot_table x) (address_state n).0 (loaded x n i)
          (common_fetched (fetches_of (plan x)) (load_name n) i q)
          ∙ gives_fetched m (fetches_of (plan x)) (load_name n) i q
          ∙ none,
      stored_gives m x (result_of i),
    )

pub never_idle : (flags : ℕ → Bool) (i : Instr) → IsCommon i → is_idle flags (AtInstr i) ≡ false
never_idle flags (Instr.Binary r op fs ty a b) q = refl
never_idle flags (Instr.Icmp r pred ty a b) q = refl
never_idle flags (Instr.Select r k a b) q = refl
never_idle flags (Instr.Cast r op nneg a to) q = refl
never_idle flags (Instr.Alloca r ty align) q = absurd q
never_idle flags (Instr.Load r ty p align) q = refl
never_idle flags (Instr.Store a p align) q = refl
never_idle flags (Instr.Gep r inbounds ty p indices) q = refl
never_idle flags (Instr.Call r must_tail ty (Callee.Named name) args) q = refl
never_idle flags (Instr.Call r must_tail ty (Callee.Allocator name) args) q = absurd q
never_idle flags (Instr.Call r must_tail ty (Callee.Intrinsic name) args) q = absurd q
never_idle flags (Instr.Call r must_tail ty (Callee.Local name) args) q = absurd q
