-- Begin of a coroutine is followed, also where slots are used before it, or its memory is kept in a cell.
use Rattle.std.proofs.Common.{◌≡◌, inl, inr, ℕ, ◌<◌, ◌≤◌, ◌==◌, ◌&&◌, ◌||◌, Bool, true, false, List, [], ◌∷◌, length, Option, Some, None, Result, Ok, Err, refl, sym, ap, ◌∙◌, subst, arith}
use Rattle.std.specs.List.{Contains, list_all}
use Rattle.std.specs.Prelude.{◌+◌, ◌*◌, is_none, is_some, not, option_map, pos, slice_get}
use Rattle.std.proofs.lemmas.Bool.{and_parts, false≢true}
use Rattle.pass_frames_proof.specs.flow_solver.Paths.{IsListed}
use Rattle.pass_frames_proof.specs.ir_base.declared.cause.Cause.{Cause}
use Rattle.pass_frames_proof.specs.ir_base.declared.outcome.Outcome.{Outcome}
use Rattle.pass_frames_proof.proofs.ir_laws.facts.Lists.{get_within}
use Rattle.pass_frames_proof.proofs.ir_laws.facts.Truth.{equal_numbers}
use Rattle.pass_frames_proof.specs.ir_model.Names.{function_at}
use Rattle.pass_frames_proof.specs.ir_model.Ty.{Ty, token}
use Rattle.pass_frames_proof.specs.ir_model.declared.instr.Instr.{Instr}
use Rattle.pass_frames_proof.specs.ir_model.declared.module.Function.{Function}
use Rattle.pass_frames_proof.specs.ir_model.declared.module.Module.{Module}
use Rattle.pass_frames_proof.specs.ir_model.declared.operand.Arg.{Arg}
use Rattle.pass_frames_proof.specs.ir_model.declared.operand.Callee.{Callee}
use Rattle.pass_frames_proof.specs.ir_model.declared.operand.Intrinsic.{Intrinsic}
use Rattle.pass_frames_proof.specs.ir_model.declared.operand.Operand.{Operand}
use Rattle.pass_frames_proof.specs.ir_parts.Contents.{instr_operands}
use Rattle.pass_frames_proof.specs.pass_cells.Kept.{entry, joined}
use Rattle.pass_frames_proof.specs.pass_copies.BeginCopies.{begin_copies, copy, put}
use Rattle.pass_frames_proof.specs.pass_copies.declared.slot.EarlySlot.{EarlySlot}
use Rattle.pass_frames_proof.specs.pass_fetch.Fetching.{fetch_of, next_after_all, next_by}
use Rattle.pass_frames_proof.specs.pass_fetch.Instrs.{next_after_instr, next_after_instrs}
use Rattle.pass_frames_proof.specs.pass_fetch.declared.fetch.Fetch.{Fetch}
use Rattle.pass_frames_proof.specs.pass_frames.Framed.{begin_of}
use Rattle.pass_frames_proof.specs.pass_frames.Tables.{offset_at}
use Rattle.pass_frames_proof.specs.Slotted.{IsSlotField}
use Rattle.pass_frames_proof.specs.run_framed.Framed.{layout_of}
use Rattle.pass_frames_meaning.proofs.begun.Begun.{begin_plain}
use Rattle.pass_frames_meaning.proofs.coroutines.Steps.{acts_as}
use Rattle.pass_frames_meaning.proofs.coroutines.Suspends.{token_is}
use Rattle.pass_frames_meaning.proofs.coroutines.Tokens.{token_nowhere}
use Rattle.pass_frames_meaning.proofs.ordinary.Standing.{fetch_ready}
use Rattle.pass_frames_meaning.proofs.order.Order.{names_in_order, rest_room}
use Rattle.pass_frames_meaning.proofs.others.AtPlace.{AreTwo, args_wanted, two_wanted}
use Rattle.pass_frames_meaning.proofs.others.Names.{alloca_apart, no_distance, plain_by, result_low}
use Rattle.pass_frames_meaning.proofs.others.Returns.{instr_in, no_return}
use Rattle.pass_frames_meaning.proofs.others.Unlocated.{unaccessed}
use Rattle.pass_frames_meaning.proofs.slotted.Facts.{block_of, listed_slots, one_of, slots_apart, slots_once, slots_there}
use Rattle.pass_frames_meaning.specs.Coroutines.{MayFollow}
use Rattle.pass_frames_meaning.specs.Kinds.{KeepsKinds, MayBegin}
use Rattle.pass_frames_meaning.specs.Setting.{AreOfRuns, KeepsAll, Setting}
use Rattle.pass_frames_proof.proofs.beginning.States.{begin_followed}
use Rattle.pass_frames_proof.proofs.allocating.Grown.{listed_in}
use Rattle.pass_frames_proof.proofs.stepping.Names.{edged_named, named_written}
use Rattle.pass_frames_proof.proofs.stepping.Operands.{slot_fetch}
use Rattle.pass_frames_proof.specs.Beginning.{AreEarlyAtBegin, HasPlainSlots, IsAtBegin, IsPlainOperand, IsSlotAtBegin, begin_call, is_in_frame}
use Rattle.pass_frames_proof.specs.Code.{address_state, loaded, slot_table}
use Rattle.pass_frames_proof.specs.Followed.{IsFollowed}
use Rattle.pass_frames_proof.specs.Framings.{IsFraming}
use Rattle.pass_frames_proof.specs.Ordinary.{IsPlainName}
use Rattle.pass_frames_proof.specs.Operands.{IsAtFetch}
use Rattle.pass_frames_proof.specs.Places.{Framing, Placed, copies, edged, framed, instrs_at, offsets, plan}
use Rattle.pass_frames_proof.specs.Related.{AreBuiltOf, is_coroutine}
use Rattle.pass_frames_proof.specs.Stepping.{AreNamesInOrder, IsNotEntering, IsPlacedOperand, IsSlotOf, IsUnlocated, state_in}
use Rattle.pass_frames_proof.proofs.pass_proofs.fetch.rules.Puts.{fetch_rises}
use Rattle.pass_frames_proof.specs.pass_renewed_proof.Renewed.{renewed_act, renewed_step}
use Rattle.pass_frames_proof.specs.rule_types.Signatures.{are_wanted}
use Rattle.pass_frames_proof.specs.rule_types.Wants.{any, is_basic, meets}
use Rattle.pass_frames_proof.specs.rule_types.declared.wants.Basic.{Basic}
use Rattle.pass_frames_proof.specs.rule_types.declared.wants.Demand.{Demand}
use Rattle.pass_frames_proof.specs.rule_values.Fits.{fits_arg, fits_kind, fits}
use Rattle.pass_frames_proof.specs.rule_values.Instrs.{fits_called, fits_result, is_passed, passes}
use Rattle.pass_frames_proof.specs.rule_values.Kinds.{value_kind}
use Rattle.pass_frames_proof.specs.run_agreement.Machines.{IsFine}
use Rattle.pass_frames_proof.specs.run_memory.Memory.{check, is_killed, is_live, may_be_owned, own, owned_to, same_kind, with_block}
use Rattle.pass_frames_proof.specs.run_memory.Pointers.{offset_of}
use Rattle.pass_frames_proof.specs.run_memory.declared.block.Kind.{Kind}
use Rattle.pass_frames_proof.specs.run_memory.declared.block.Life.{Life}
use Rattle.pass_frames_proof.specs.run_memory.declared.block.MemoryBlock.{MemoryBlock}
use Rattle.pass_frames_proof.specs.run_memory.declared.pointer.Pointer.{Pointer}
use Rattle.pass_frames_proof.specs.run_memory.declared.pointer.Value.{Value}
use Rattle.run_slots.specs.Slots.{IsFrameBlock, is_alloca_block}
use Rattle.pass_frames_proof.specs.run_source.Source.{begin, begin_at, begun}
use Rattle.pass_frames_proof.specs.run_source.State.{function_of, gives, own_frame, with_memory}
use Rattle.pass_frames_proof.specs.run_source.declared.state.Activation.{Activation}
use Rattle.pass_frames_proof.specs.run_source.declared.state.Instance.{Instance}
use Rattle.pass_frames_proof.specs.run_source.declared.state.State.{State}
use Rattle.pass_frames_proof.specs.run_source_tables.Given.{Given}
use Rattle.pass_frames_proof.specs.run_states.sound_states.Sound.{AreSoundBelow, IsInstanceOf}
use Rattle.pass_frames_proof.specs.run_step.Results.{and_then, found, ok_if}
use Rattle.pass_frames_proof.specs.run_step.Step.{AtInstr, Coro, fetch}
use Rattle.pass_frames_proof.specs.run_step.Step.{block_of as pointed}
use Rattle.pass_frames_proof.specs.run_step.Values.{operand_value, pointer_to}
use Rattle.pass_frames_proof.specs.run_step.declared.world.Slot.{Slot}

-- ---- what begin does

no_error : {A : Type 0} (cause : Cause) (x : A) → ◌≡◌ {A = Result A Cause} (Err cause) (Ok x) → ⊥
no_error cause x e = cc

-- the block that is owned
abbrev IsOwnable : List MemoryBlock → Value → ℕ → Type 0
IsOwnable m v n =
    (block : ℕ) × (v ≡ pointer_to block) × (may_be_owned Kind.Allocator n (slice_get m block) ≡ true)

own_ok : (m : List MemoryBlock) (v : Value) (n : ℕ) (after : List MemoryBlock) → own m v n Kind.Allocator ≡ Ok after
    → IsOwnable m v n
own_ok m (Value.Ptr (Pointer.At b o)) n after e =
    on ((o.bits == 0) && may_be_owned Kind.Allocator n (slice_get m b)) refl e
  where
    on : (t : Bool) → ((o.bits == 0) && may_be_owned Kind.Allocator n (slice_get m b)) ≡ t
        → check t Cause.Begin
        (Ok (with_block m b (owned_to n))) ≡ Ok after
        → IsOwnable m (Value.Ptr (Pointer.At b o)) n
    on false d h = absurd (no_error Cause.Begin after h)
    on true d h =
        let both = and_parts (o.bits == 0) (may_be_owned Kind.Allocator n (slice_get m b)) d in
        (b, ap (λ (q : ℕ). Value.Ptr (Pointer.At b (offset_of q))) (equal_numbers o.bits 0 both.0), both.1)
own_ok m (Value.Ptr Pointer.Null) n after e = absurd (no_error Cause.Begin after e)
own_ok m (Value.Ptr (Pointer.Func f)) n after e = absurd (no_error Cause.Begin after e)
own_ok m (Value.Int w) n after e = absurd (no_error Cause.Begin after e)
own_ok m Value.Poison n after e = absurd (no_error Cause.Begin after e)

module _ (g : Given) (s after : State) (result : Option ℕ) (v : Value) where
  begin_done : begin g s result v ≡ Ok after → (s.top.instance ≡ None) × IsOwnable s.world.memory v (own_frame g s).size
  begin_done e = on s.top.instance refl e
    where
      owned : (q : Result (List MemoryBlock) Cause) → own s.world.memory v (own_frame g s).size Kind.Allocator ≡ q
          → and_then (and_then q (λ memory. and_then (found Cause.Begin (pointed v))
          (λ b. Ok (begun g (with_memory s memory) b 0)))) (λ s. Ok (gives s result v)) ≡ Ok after
          → IsOwnable s.world.memory v (own_frame g s).size
      owned (Err cause) d h = absurd (no_error cause after h)
      owned (Ok m) d h = own_ok s.world.memory v (own_frame g s).size m d

      on : (o : Option ℕ) → s.top.instance ≡ o
          → and_then (ok_if (is_none o) Cause.Begin s) (λ s. and_then (begin_at g s v Kind.Allocator)
          (λ s. Ok (gives s result v))) ≡ Ok after
          → (s.top.instance ≡ None) × IsOwnable s.world.memory v (own_frame g s).size
      on (Some i) d h = absurd (no_error Cause.Begin after h)
      on None d h = (d, owned (own s.world.memory v (own_frame g s).size Kind.Allocator) refl h)

-- ---- blocks

killed_dead : (l : Life) → is_killed l ≡ true → is_live l ≡ true → ⊥
killed_dead Life.Live e d = absurd (cc)
killed_dead Life.Ended e d = absurd (cc)
killed_dead Life.Killed e d = absurd (cc)

-- the block of an instance is owned, or was killed
not_own : (m : List MemoryBlock) (x : Instance) (n : ℕ) → IsFrameBlock m x
    → may_be_owned Kind.Allocator n (slice_get m x.block) ≡ true → ⊥
not_own m x n f may = by x.freed refl
  where
    may_there : may_be_owned Kind.Allocator n (Some f.block) ≡ true
    may_there = ap (may_be_owned Kind.Allocator n) (sym f.there) ∙ may

    by : (b : Bool) → x.freed ≡ b → ⊥
    by true d =
        let a = and_parts _ _ may_there in
        let b = and_parts _ _ a.0 in
        killed_dead f.block.life (f.gone d) (and_parts _ _ b.0).0
    by false d =
        let a = and_parts _ _ may_there in
        let free : not (is_some f.block.owned) ≡ true = (and_parts _ _ a.0).1 in
        false≢true (sym (ap not (f.owned d)) ∙ free)

no_heap : (x : MemoryBlock) → is_alloca_block x ≡ true → same_kind x.kind Kind.Allocator ≡ false
no_heap x e = on x.kind e
  where
    on : (k : Kind) → (same_kind k Kind.Slot || same_kind k Kind.Stack) ≡ true → same_kind k Kind.Allocator ≡ false
    on Kind.Slot h = refl
    on Kind.Stack h = refl
    on Kind.Global h = absurd (cc)
    on Kind.Constant h = absurd (cc)
    on Kind.Allocator h = absurd (cc)

-- ---- activations below have instances

below_low : (m : Module) (xs : List Instance) (result : Option ℕ) (as' : List Activation) → AreSoundBelow m xs result as'
    → (a : Activation) → IsListed a as' → (j : ℕ) → a.instance ≡ Some j → j < length xs
below_low m xs result [] h a l j e = absurd l
below_low m xs result (z ∷ as') h a (inl d) j e =
    on (slice_get xs j) refl
    (subst (IsInstanceOf xs z.func) (sym (ap (λ (q : Activation). q.instance) d) ∙ e) h.1.instance)
  where
    on : (o : Option Instance) → slice_get xs j ≡ o → option_map (λ (y : Instance). y.coroutine) o ≡ Some z.func
        → j < length xs
    on None q h = absurd (cc)
    on (Some y) q h = get_within xs j y q
below_low m xs result (z ∷ as') h a (inr l) j e = below_low m xs z.result as' h.2 a l j e

module _ (c : Setting) (all : KeepsAll c) (kinds : KeepsKinds c) (s t : State) (r : AreBuiltOf c.b s t)
    (k : AreOfRuns c s t r) (runs : s.outcome ≡ Outcome.Running) (fine : IsFine (renewed_step c.g s).outcome)
    (coroutine : is_coroutine c.b s.top.func ≡ true) (mode : IsNotEntering s.top.mode) (o : MayFollow c s)
    (m : MayBegin c s t) (result : Option ℕ) (must_tail : Bool) (ty : Option Ty) (args : List Arg)
    (there : fetch (function_of c.g.given s) s.top.block s.top.at
    ≡ AtInstr (Instr.Call result must_tail ty (Callee.Intrinsic Intrinsic.CoroBegin) args)) where
  abbrev x : Framing
  x = c.b.framing s.top.func

  abbrev f : Function
  f = function_at c.g.given.code s.top.func

  is : IsFraming x
  is = all.given.framings s.top.func coroutine

  same : f ≡ edged x
  same = all.given.coroutines s.top.func coroutine

  -- ---- its operands

  wanted : are_wanted (any Basic.Token ∷ any Basic.Ptr ∷ []) args ≡ true
  wanted = args_wanted c.g.given.code f (all.types s.top.func) s.top.block s.top.at result must_tail ty
      Intrinsic.CoroBegin args there

  two : AreTwo args
  two = two_wanted (any Basic.Token) (any Basic.Ptr) args wanted

  both : are_wanted (any Basic.Token ∷ any Basic.Ptr ∷ []) (two.first ∷ two.second ∷ []) ≡ true
  both = ap (are_wanted (any Basic.Token ∷ any Basic.Ptr ∷ [])) (sym two.are) ∙ wanted

  first_type : two.first.ty ≡ token
  first_type = token_is two.first.ty
      (and_parts (is_basic Basic.Token two.first.ty) (meets Demand.Any two.first.value) (and_parts _ _ both).0).0

  passed : list_all (passes (value_kind f) (Callee.Intrinsic Intrinsic.CoroBegin)) args ≡ true
  passed =
      (and_parts (fits_called (value_kind f) (Callee.Intrinsic Intrinsic.CoroBegin) args) _
      (and_parts (fits_result (Callee.Intrinsic Intrinsic.CoroBegin) ty result) _
      ((all.types s.top.func).instrs s.top.block s.top.at
      (Instr.Call result must_tail ty (Callee.Intrinsic Intrinsic.CoroBegin) args) there)).1).1

  first_fits : fits_arg (value_kind f) two.first ≡ true
  first_fits =
      (and_parts (is_passed (Callee.Intrinsic Intrinsic.CoroBegin) two.first.ty) (fits_arg (value_kind f) two.first)
      (and_parts (passes (value_kind f) (Callee.Intrinsic Intrinsic.CoroBegin) two.first) _
      (ap (list_all (passes (value_kind f) (Callee.Intrinsic Intrinsic.CoroBegin))) (sym two.are) ∙ passed)).0).1

  token_plain : IsPlainOperand x two.first.value
  token_plain = on two.first.value refl
    where
      on : (v : Operand) → two.first.value ≡ v → IsPlainOperand x v
      on (Operand.Local v) e =
          let n = token_nowhere x is v
          (ap (λ (g : Function). fits_kind (value_kind g v) token) (sym same)
          ∙ ap (λ (u : Ty). fits_kind (value_kind f v) u) (sym first_type)
          ∙ ap (fits (value_kind f) two.first.ty) (sym e) ∙ first_fits) in
          record { loaded = n.loaded; placed = n.placed }
      on (Operand.Global n) e = record { loaded = refl; placed = refl }
      on (Operand.Number n) e = record { loaded = refl; placed = refl }
      on Operand.True e = record { loaded = refl; placed = refl }
      on Operand.False e = record { loaded = refl; placed = refl }
      on Operand.Null e = record { loaded = refl; placed = refl }
      on Operand.None e = record { loaded = refl; placed = refl }
      on Operand.Poison e = record { loaded = refl; placed = refl }

  abbrev i : Instr
  i = begin_call result must_tail ty two.first two.second.ty two.second.value

  here : fetch f s.top.block s.top.at ≡ AtInstr i
  here =
      there
      ∙ ap (λ (q : List Arg). AtInstr (Instr.Call result must_tail ty (Callee.Intrinsic Intrinsic.CoroBegin) q))
      two.are

  stands : slice_get (instrs_at x s.top.block) s.top.at ≡ Some i
  stands = instr_in x f same s.top.block s.top.at i here

  -- ---- what it does

  done : (after : State) × (renewed_act c.g s (Coro Intrinsic.CoroBegin (two.first
      ∷ two.second ∷ []) result) ≡ Ok after)
      × (renewed_step c.g s ≡ after)
  done = acts_as c all s t r k runs fine coroutine mode o i here refl (Coro Intrinsic.CoroBegin (two.first
      ∷ two.second ∷ []) result) refl

  abbrev memory_value : Value
  memory_value = operand_value c.g.given.code s.top.values two.second.ty two.second.value

  does : (s.top.instance ≡ None)
      × IsOwnable s.world.memory memory_value (own_frame c.g.given s).size
  does = begin_done c.g.given s done.0 result memory_value done.1

  abbrev block : ℕ
  block = does.1.0

  -- ---- its name

  abbrev n : Placed
  n = state_in x s.top.block s.top.at

  unlocated : IsUnlocated x n i
  unlocated = unaccessed x n i refl

  order : AreNamesInOrder x n i
  order = names_in_order x is s.top.block s.top.at i stands unlocated refl refl

  -- a copy has the address of its slot made, and so has the store of that address
  module _ (e : EarlySlot) (d : ℕ) (told : slice_get (offsets x) e.slot ≡ Some (Some d)) where
    fetched_slot : fetch_of (slot_table x) (Operand.Local e.slot) ≡ Some (Fetch.Address (begin_of x.function) d)
    fetched_slot =
        slot_fetch x e.slot
        ∙ ap (λ (o : Option (Option ℕ)). option_map (Fetch.Address (begin_of x.function)) (joined o)) told

    one_more : (q : ℕ) (more : List Operand) → q + 1 ≤ next_after_all (slot_table x) q (Operand.Local e.slot ∷ more)
    one_more q more =
        let up : q + 1 ≤ next_after_all (slot_table x) (q + 1) more = fetch_rises (slot_table x) (q + 1) more in
        let same : next_after_all (slot_table x) q (Operand.Local e.slot ∷ more)
        ≡ next_after_all (slot_table x) (q + 1) more =
        ap (λ (o : Option Fetch). next_after_all (slot_table x) (next_by q o) more) fetched_slot in
        omega (arith, up, same)

  abbrev early : List EarlySlot
  early = (copies x).slots

  copies_take : (es : List EarlySlot) → ((e : EarlySlot) → IsListed e es → IsListed e early) → (q : ℕ)
      → q + 2 * length es ≤ next_after_instrs (slot_table x) q (begin_copies es)
  copies_take [] more q = omega arith
  copies_take (e ∷ es) more q =
      let told = (kinds.early_fields s.top.func coroutine).place e (listed_in early e (more e (inl refl))) in
      let one : q + 1 ≤ next_after_instr (slot_table x) q (copy e) =
      one_more e told.offset told.told q
      (Operand.Local e.temporary ∷ Operand.Number (pos e.size) ∷ Operand.False ∷ []) in
      let first : ℕ = next_after_instr (slot_table x) q (copy e) in
      let two : first + 1 ≤ next_after_instr (slot_table x) first (put e.slot e.cell) =
      one_more e told.offset told.told first (Operand.Local e.cell ∷ []) in
      let second : ℕ = next_after_instr (slot_table x) first (put e.slot e.cell) in
      let rest : second + 2 * length es ≤ next_after_instrs (slot_table x) second (begin_copies es) =
      copies_take es (λ y l. more y (inr l)) second in
      omega (arith, one, two, rest)

  copies_room : (address_state n).0 + 2 * length early ≤ length (framed x).names
  copies_room =
      rest_room x is s.top.block s.top.at i stands unlocated refl refl (2 * length early)
      (copies_take early (λ e l. l))

  named : result ≡ Some (begin_of x.function)
  named = kinds.begins s.top.func s.top.block s.top.at result must_tail ty args coroutine there

  name_room : (v : ℕ) → v < length (edged x).names → v < length (framed x).names
  name_room v low =
      let a = order.room in
      let b = order.addresses in
      let d = edged_named x in
      let e = named_written x in
      let h : (address_state n).0 ≤ next_after_all (slot_table x) (address_state n).0 (instr_operands (loaded x n i)) =
      fetch_rises (slot_table x) (address_state n).0 (instr_operands (loaded x n i)) in
      omega (arith, low, a, b, d, e, h)

  same_name : (u v : ℕ) → ◌≡◌ {A = Option ℕ} (Some u) (Some v) → u ≡ v
  same_name u v e = cc

  name_is : (v : ℕ) → result ≡ Some v
      → IsPlainName x v × (entry (plan x).places v ≡ None) × (v < length (framed x).names)
  name_is v e = (
    plain_by x is s.top.block s.top.at i stands v e tt (no_distance x is s.top.block s.top.at i stands v e tt),
    subst (λ (q : ℕ). entry (plan x).places q ≡ None)
        (same_name (begin_of x.function) v (sym named ∙ e)) (begin_plain x is).unkept,
    name_room v (result_low x is s.top.block s.top.at v i stands e),
  )

  -- ---- slots

  fields : (slot : Slot) → Contains s.top.slots slot → is_in_frame x slot ≡ true → IsSlotAtBegin c.b s slot
  fields slot own inside =
      let a = m.allocas slot own in
      let h = kinds.fields s.top.func a.at slot.alloca a.align a.ty coroutine a.there inside in
      record {
        position = h.position;
        held = h.held;
        field = λ z e.
            let sized = a.sized z e in
            subst (λ (q : ℕ × ℕ). IsSlotField
            (layout_of c.b.given.layouts s.top.func)
            (offset_at x.layout h.position) q.0 q.1)
            (λ j. (sym sized.0 j, sym sized.1 j)) h.field;
        blank = λ none z e lives. m.blank slot own inside none z e lives;
      }

  early_there : AreEarlyAtBegin c.b s
  early_there =
      let f = kinds.early_fields s.top.func coroutine in
      record {
        each = λ e own. record {
          place = f.place e own;
          some = f.some e own;
          made = m.made e own;
          sized = λ slot has is z at.
              let a = m.allocas slot has in
              let same = a.sized z at in
              let typed = f.sized e own a.at slot.alloca a.align a.ty a.there is in (
                same.0 ∙ typed.0,
                subst (λ (q : ℕ). 1 ≤ q) (sym same.1) typed.1,
              );
        };
        slots = m.early_slots;
        cells = f.cells;
        apart = m.early_apart;
      }

  -- ---- its operands are names of the table, and none lies in the frame

  fetched : IsAtFetch c.b s i
  fetched =
      fetch_ready c all s k.sound coroutine mode i here tt (record {
        position = o.position;
        rules = o.rules;
        unlocated = unlocated;
        operands = o.operands i here tt unlocated;
      })

  -- what lies in the frame is used behind begin
  outside : fetch_of (slot_table x) two.second.value ≡ None
  outside = by two.second.value refl
    where
      local : (v : ℕ) → two.second.value ≡ Operand.Local v → (q : Option ℕ) → entry (offsets x) v ≡ q
          → fetch_of (slot_table x) (Operand.Local v) ≡ None
      local v same None told = slot_fetch x v ∙ ap (option_map (Fetch.Address (begin_of x.function))) told
      local v same (Some d) told =
          let p : IsSlotOf x s v d = subst (IsPlacedOperand x s) same fetched.operands.1.0 d told in
          let no : None ≡ Some p.number = sym does.0 ∙ p.own in
          absurd (cc)

      by : (v : Operand) → two.second.value ≡ v → fetch_of (slot_table x) v ≡ None
      by (Operand.Local v) same = local v same (entry (offsets x) v) refl
      by (Operand.Global n) same = refl
      by (Operand.Number n) same = refl
      by Operand.True same = refl
      by Operand.False same = refl
      by Operand.Null same = refl
      by Operand.None same = refl
      by Operand.Poison same = refl

  plain_slots : HasPlainSlots c.b t
  plain_slots = record {
    own = m.framed_slots;
    heaps = λ a l slot has z e.
        let b = block_of t k.other_slots slot.block (one_of t k.other_slots a l slot has) in
        let w : b.block ≡ z = same_there b.block z (sym b.there ∙ e) in
        subst (λ (y : MemoryBlock). same_kind y.kind Kind.Allocator ≡ false) w (no_heap b.block b.made);
  }
    where
      same_there : (y z : MemoryBlock) → ◌≡◌ {A = Option MemoryBlock} (Some y) (Some z) → y ≡ z
      same_there y z e = cc

  at_begin : IsAtBegin c.b c.g s result must_tail ty two.first two.second.ty two.second.value block
  at_begin = record {
    runs = runs;
    coroutine = coroutine;
    ramp = m.ramp;
    there = stands;
    unreturned = no_return c all s.top.func s.top.block s.top.at i coroutine here;
    token = token_plain;
    low = fetched.below.1.0;
    token_low = fetched.below.0;
    outside = outside;
    order = order;
    copies_room = copies_room;
    begun = (named, result_low x is s.top.block s.top.at (begin_of x.function) i stands named);
    named = name_is;
    room = k.sound.top.values ∙ ap (λ (g : Function). length g.names) same;
    names = λ at u align ty' e. (
      result_low x is 0 at u (Instr.Alloca u ty' align) e refl,
      λ q. alloca_apart x is s.top.block s.top.at i stands u q tt 0 at align ty' e,
    );
    early = early_there;
    none = does.0;
    value = does.1.1;
    may = does.1.2;
    fresh = λ j y e eq. not_own s.world.memory y (own_frame c.g.given s).size (k.slots.slotted.frames j y e)
        (ap (λ (q : ℕ). may_be_owned Kind.Allocator (own_frame c.g.given s).size (slice_get s.world.memory q)) eq
        ∙ does.1.2);
    sizes = all.frames s.top.func;
    laid = kinds.sizes s.top.func coroutine;
    classes = λ slot own.
        let a = m.allocas slot own in
        kinds.classes s.top.func a.at slot.alloca a.align a.ty coroutine a.there;
    slots = fields;
    apart = m.apart;
    once = slots_once s k.slots;
    others = below_low c.g.given.code s.instances s.top.result s.below k.sound.below;
  }

  pub begin_at_place : IsFollowed c.b c.g s t
  begin_at_place = begin_followed (record {
    b = c.b;
    g = c.g;
    given = all.given;
    s = s;
    t = t;
    r = r;
    result = result;
    must_tail = must_tail;
    ty = ty;
    id = two.first;
    typed = two.second.ty;
    memory = two.second.value;
    block = block;
    h = at_begin;
    listed = listed_slots s k.slots;
    mine = slots_there s k.slots;
    theirs = plain_slots;
    apart = slots_apart t k.other_slots;
    led = m.led;
    live = m.live;
  })
