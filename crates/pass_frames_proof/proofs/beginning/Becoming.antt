-- What begin becomes in the framed form: its memory is loaded where a cell keeps it, begin itself stands behind that,
-- and then the slots that are used before it are copied to the frame.
use Rattle.std.proofs.Common.{◌≡◌, ◌≤◌, ◌∷◌, ◌++◌, ◌∙◌, [], Bool, List, None, Option, Some, ap, append-nil, arith, length, refl, subst, sym, true, ℕ}
use Rattle.std.specs.Prelude.{slice_get}
use Rattle.pass_frames_steps.proofs.ir_laws.facts.Members.{each_joined, each_turns}
use Rattle.pass_frames_steps.specs.ir_model.Ty.{Ty}
use Rattle.pass_frames_steps.specs.ir_model.declared.instr.Instr.{Instr}
use Rattle.pass_frames_steps.specs.ir_model.declared.module.Module.{Module}
use Rattle.pass_frames_steps.specs.ir_model.declared.operand.Arg.{Arg}
use Rattle.pass_frames_steps.specs.ir_model.declared.operand.Callee.{Callee}
use Rattle.pass_frames_steps.specs.ir_model.declared.operand.Intrinsic.{Intrinsic}
use Rattle.pass_frames_steps.specs.ir_model.declared.operand.Operand.{Operand}
use Rattle.pass_frames_steps.specs.ir_parts.Contents.{instr_operands}
use Rattle.pass_frames_steps.specs.pass_addresses.Placing.{lies_outside, stays, without_promise_of}
use Rattle.pass_frames_steps.specs.pass_cells.Cells.{fetches_of}
use Rattle.pass_frames_steps.specs.pass_cells.Kept.{entry}
use Rattle.pass_frames_steps.specs.pass_cells.Moves.{saved_values}
use Rattle.pass_frames_steps.specs.pass_cells.Written.{save_row}
use Rattle.pass_frames_steps.specs.pass_copies.BeginCopies.{begin_copies, copy, put}
use Rattle.pass_frames_steps.specs.pass_copies.declared.slot.EarlySlot.{EarlySlot}
use Rattle.pass_frames_steps.specs.pass_fetch.Blocks.{end_at}
use Rattle.pass_frames_steps.specs.pass_fetch.Fetching.{fetch_of, fetched_args, fetches_of_all, next_by, operand_by}
use Rattle.pass_frames_steps.specs.pass_fetch.Instrs.{with_fetched}
use Rattle.pass_frames_steps.specs.pass_fetch.declared.fetch.Fetch.{Fetch}
use Rattle.pass_frames_steps.specs.pass_front.Front.{is_no_alloca}
use Rattle.pass_frames_steps.proofs.code.Idle.{each_idle, fetches_idle, not_stored, only_idle}
use Rattle.pass_frames_steps.proofs.code.Instrs.{instr_code}
use Rattle.pass_frames_steps.proofs.code.Left.{Far, far_named, parts_left}
use Rattle.pass_frames_steps.proofs.code.Names.{far_left}
use Rattle.pass_frames_proof.proofs.early.Unlocated.{others_unlocated}
use Rattle.pass_frames_steps.proofs.layers.Grown.{both_becomes}
use Rattle.pass_frames_steps.proofs.layers.Idle.{all_stay, both_idle, state_stays}
use Rattle.pass_frames_steps.proofs.led.Front.{all_still}
use Rattle.pass_frames_steps.specs.Beginning.{IsPlainOperand, begin_call}
use Rattle.pass_frames_steps.specs.Code.{address_state, addressed, code_of, copied_there, load_name, loaded, loads, located, past_addressed, saved, slot_table, stores, unmarked_one, write_name}
use Rattle.pass_frames_steps.specs.Early.{copies_line}
use Rattle.pass_frames_steps.specs.Framings.{IsFraming}
use Rattle.pass_frames_steps.specs.Layers.{IsIdle, Layer, becomes, each, only}
use Rattle.pass_frames_steps.specs.Led.{IsStill}
use Rattle.pass_frames_steps.specs.Lined.{GivesNone}
use Rattle.pass_frames_steps.specs.Passes.{block_at, fetched_first, fetching_at, phi_ends, unmarked_at}
use Rattle.pass_frames_steps.specs.Places.{Framing, Placed, addressing_layer, copies, instrs_at, marked, named, offsets, placed_layer, plan, unmarked}
use Rattle.pass_frames_steps.specs.Stepping.{IsUnlocated, state_in}
use Rattle.pass_frames_steps.specs.pass_proofs.fetch.rules.Fetches.{AreUnfetched}
use Rattle.pass_frames_steps.specs.run_laws.changed.Changed.{Each}

-- ---- tests that a begin passes, whatever its operands

record IsLeftBegin (x : Framing) (i : Instr) : Type 0 where
  row : save_row (plan x) i ≡ []
  stays_it : stays (marked x) i ≡ true
  same : without_promise_of i ≡ i
  outside : lies_outside (offsets x) i ≡ true

begin_left : (x : Framing) (o : Option ℕ) (must_tail : Bool) (ty : Option Ty) (args : List Arg)
    → IsLeftBegin x (Instr.Call o must_tail ty (Callee.Intrinsic Intrinsic.CoroBegin) args)
begin_left x None must_tail ty args = record { row = refl; stays_it = refl; same = refl; outside = refl }
begin_left x (Some v) must_tail ty args = record { row = refl; stays_it = refl; same = refl; outside = refl }

-- loads and addresses are no allocas, and give no frame
pub still_no_alloca : (j : Instr) → IsStill j → is_no_alloca j ≡ true
still_no_alloca (Instr.Load r ty p align) s = refl
still_no_alloca (Instr.Gep r inbounds ty p indices) s = refl
still_no_alloca _ s = absurd s

pub still_gives : (m : Module) (j : Instr) → IsStill j → GivesNone m j
still_gives m (Instr.Load r ty p align) s = refl
still_gives m (Instr.Gep r inbounds ty p indices) s = refl
still_gives m _ s = absurd s

-- ---- what copies become

record IsEasy (x : Framing) (j : Instr) : Type 0 where
  outside : lies_outside (offsets x) j ≡ true
  no_alloca : is_no_alloca j ≡ true
  gives : (m : Module) → GivesNone m j

still_easy : (x : Framing) (j : Instr) → IsStill j → IsEasy x j
still_easy x (Instr.Load r ty p align) s = record { outside = refl; no_alloca = refl; gives = λ m. refl }
still_easy x (Instr.Gep r inbounds ty p indices) s = record { outside = refl; no_alloca = refl; gives = λ m. refl }
still_easy x _ s = absurd s

module _ (x : Framing) (k : ℕ) where
  module _ (q : ℕ × Unit {0}) (j : Instr) (e : IsEasy x (with_fetched (slot_table x) q.0 j)) where
    abbrev A0 : Layer ℕ
    A0 = fetching_at (unmarked x) (slot_table x) k

    abbrev B0 : Layer (Unit {0})
    B0 = only (lies_outside (offsets x))

    abbrev these : List Instr
    these = fetches_of_all (slot_table x) q.0 (instr_operands j) ++ (with_fetched (slot_table x) q.0 j ∷ [])

    these_easy : Each (IsEasy x) these
    these_easy =
        each_joined (IsEasy x) (fetches_of_all (slot_table x) q.0 (instr_operands j))
        (with_fetched (slot_table x) q.0 j ∷ [])
        (each_turns IsStill (IsEasy x) (still_easy x) (fetches_of_all (slot_table x) q.0 (instr_operands j))
        (all_still (slot_table x) q.0 (instr_operands j))) (e, tt)

    these_are : becomes (addressing_layer x k) q j ≡ these
    these_are =
        both_becomes A0 B0 q.0 q.1 j
        ∙ all_stay B0 these
        (each_turns (IsEasy x) (IsIdle B0) (λ i h. only_idle (lies_outside (offsets x)) i h.outside) these these_easy)
        q.1

    one_easy : Each (IsEasy x) (becomes (addressing_layer x k) q j)
    one_easy = subst (Each (IsEasy x)) (sym these_are) these_easy

  copies_easy : (q : ℕ × Unit {0}) (ss : List EarlySlot) → Each (IsEasy x) (addressed x k q (begin_copies ss))
  copies_easy q [] = tt
  copies_easy q (e ∷ ss) =
      let second : ℕ × Unit {0} = (addressing_layer x k).after q (copy e) in
      each_joined (IsEasy x) (becomes (addressing_layer x k) q (copy e))
      (addressed x k second (put e.slot e.cell ∷ begin_copies ss))
      (one_easy q (copy e) (record { outside = refl; no_alloca = refl; gives = λ m. refl }))
      (each_joined (IsEasy x) (becomes (addressing_layer x k) second (put e.slot e.cell))
      (addressed x k ((addressing_layer x k).after second (put e.slot e.cell)) (begin_copies ss))
      (one_easy second (put e.slot e.cell) (record { outside = refl; no_alloca = refl; gives = λ m. refl }))
      (copies_easy ((addressing_layer x k).after second (put e.slot e.cell)) ss))

  pub copies_gives : (m : Module) (n : ℕ) (ss : List EarlySlot) → Each (GivesNone m) (copies_line x k n ss)
  copies_gives m n ss =
      each_turns (IsEasy x) (GivesNone m) (λ j h. h.gives m) (copies_line x k n ss) (copies_easy (n, tt) ss)

  pub copies_no_alloca : (n : ℕ) (ss : List EarlySlot)
      → Each (λ (j : Instr). is_no_alloca j ≡ true) (copies_line x k n ss)
  copies_no_alloca n ss =
      each_turns (IsEasy x) (λ (j : Instr). is_no_alloca j ≡ true) (λ j h. h.no_alloca) (copies_line x k n ss)
      (copies_easy (n, tt) ss)

-- ---- the code

module _ (x : Framing) (is : IsFraming x) (k at : ℕ) (result : Option ℕ) (must_tail : Bool) (ty : Option Ty)
    (id : Arg) (typed : Ty) (memory : Operand)
    (there : slice_get (instrs_at x k) at ≡ Some (begin_call result must_tail ty id typed memory))
    (token : IsPlainOperand x id.value) (outside : fetch_of (slot_table x) memory ≡ None)
    (low : length (named x).names ≤ load_name (state_in x k at))
    (unkept : (v : ℕ) → result ≡ Some v → entry (plan x).places v ≡ None) where
  abbrev pub i : Instr
  i = begin_call result must_tail ty id typed memory

  abbrev pub st : Placed
  st = state_in x k at

  abbrev pub n : ℕ
  n = load_name st

  abbrev pub m : ℕ
  m = (address_state st).0

  abbrev pub T : List (Option Fetch)
  T = fetches_of (plan x)

  abbrev pub one : Instr
  one = loaded x st i

  abbrev pub front : List Instr
  front = loads x st i

  abbrev pub line : List Instr
  line = front ++ (one ∷ copies_line x k m (copies x).slots)

  one_left : IsLeftBegin x one
  one_left = begin_left x result must_tail ty (fetched_args T n (id ∷ record { ty = typed; value = memory } ∷ []))

  high : n ≤ next_by n (fetch_of T id.value)
  high = let e : next_by n (fetch_of T id.value) ≡ n = ap (next_by n) token.loaded in omega (arith, e)

  second : (q : ℕ) → n ≤ q → (o : Option Fetch)
      → fetch_of (slot_table x) (operand_by q o memory) ≡ None
  second q le None = outside
  second q le (Some f) =
      let far : Far x is ≤ length (named x).names = far_named x is in
      (far_left x is q (let e = low in omega (arith, far, e, le))).0

  unaddressed : AreUnfetched (slot_table x) (instr_operands one)
  unaddressed = (
    ap (λ (o : Option Fetch). fetch_of (slot_table x) (operand_by n o id.value)) token.loaded ∙ token.placed,
    (second (next_by n (fetch_of T id.value)) high (fetch_of T memory), tt),
  )

  abbrev A : Layer (ℕ × Unit {0})
  A = addressing_layer x k

  idle : Each (IsIdle A) (one ∷ [])
  idle = (
    both_idle (fetching_at (unmarked x) (slot_table x) k) (only (lies_outside (offsets x))) one
        (fetches_idle (slot_table x) (end_at (phi_ends (unmarked x) (slot_table x)) (block_at (unmarked x) k).label)
        (fetched_first (unmarked x) (slot_table x) k) (block_at (unmarked x) k) one unaddressed)
        (only_idle (lies_outside (offsets x)) one one_left.outside),
    tt,
  )

  saved_none : saved x st i ≡ []
  saved_none = ap (λ (row : List ℕ). saved_values (plan x).kept (write_name st) row) one_left.row

  unlocated : IsUnlocated x st i
  unlocated = others_unlocated x st i refl

  unmarked_is : unmarked_one x (located x st i) ≡ one ∷ []
  unmarked_is =
      ap (unmarked_one x) unlocated.located
      ∙ all_stay (unmarked_at (marked x)) (one ∷ []) (
        both_idle (only (stays (marked x))) (each without_promise_of) one
            (only_idle (stays (marked x)) one one_left.stays_it) (each_idle without_promise_of one one_left.same),
        tt,
      )
      (tt, tt)

  stores_none : stores x st i ≡ []
  stores_none = ap (λ (xs : List Instr). xs ++ []) (not_stored x.code (plan x) result unkept)

  code_is : code_of x k st i ≡ line
  code_is =
      (λ j. front
      ++ (addressed x k (address_state st) (saved_none j)
      ++ (unlocated.wheres j
      ++ (addressed x k (past_addressed x k (address_state st) (saved_none j)) (unmarked_is j)
      ++ (addressed x k
      (past_addressed x k (past_addressed x k (address_state st) (saved_none j)) (unmarked_is j)) (copied_there x st i)
      ++ stores_none j)))))
      ∙ (λ j. front
      ++ ([]
      ++ ([]
      ++ (all_stay A (one ∷ []) idle (address_state st) j
      ++ (addressed x k (state_stays A (one ∷ []) idle (address_state st) j) (copied_there x st i) ++ [])))))
      ∙ ap (λ (xs : List Instr). front ++ (one ∷ xs)) (append-nil (copies_line x k m (copies x).slots))

  pub line_becomes : becomes (placed_layer x k) st i ≡ line
  line_becomes = instr_code x k st i (parts_left x is k at i there) ∙ code_is

  pub front_still : Each IsStill front
  front_still = all_still T n (instr_operands i)

  pub line_no_alloca : Each (λ (j : Instr). is_no_alloca j ≡ true) line
  line_no_alloca =
      each_joined (λ (j : Instr). is_no_alloca j ≡ true) front (one ∷ copies_line x k m (copies x).slots)
      (each_turns IsStill (λ (j : Instr). is_no_alloca j ≡ true) still_no_alloca front front_still)
      (refl, copies_no_alloca x k m (copies x).slots)
