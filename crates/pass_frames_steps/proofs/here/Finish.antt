-- Behind a line that leaves the source as it is the states are related, where what it leaves is known.
use Rattle.std.proofs.Common.{◌≡◌, ◌⊎◌, ◌+◌, ◌<◌, ◌≤◌, ◌∙◌, List, None, Option, Some, ap, arith, false, inl, inr, length, refl, subst, sym, true, ℕ, ⊎_elim}
use Rattle.std.proofs.lemmas.Bool.{cases_lt}
use Rattle.std.specs.List.{Contains}
use Rattle.pass_frames_code.proofs.ir_laws.facts.Members.{each_joined}
use Rattle.pass_frames_code.proofs.ir_laws.facts.Truth.{is_number}
use Rattle.pass_frames_code.specs.ir_model.Ty.{Ty}
use Rattle.pass_frames_code.specs.ir_model.declared.instr.Instr.{Instr}
use Rattle.pass_frames_code.specs.ir_parts.Contents.{instr_operands, result_of}
use Rattle.pass_frames_code.specs.pass_cells.Cells.{fetches_of}
use Rattle.pass_frames_code.specs.pass_cells.Kept.{entry}
use Rattle.pass_frames_code.specs.pass_copies.declared.slot.EarlySlot.{EarlySlot}
use Rattle.pass_frames_code.specs.pass_fetch.Fetching.{fetches_of_all, next_after_all}
use Rattle.pass_frames_code.specs.pass_fetch.Instrs.{with_fetched}
use Rattle.pass_frames_code.specs.pass_fetch.declared.fetch.Fetch.{Fetch}
use Rattle.pass_frames_steps.proofs.here.State.{at_is, block_is, is, low, values}
use Rattle.pass_frames_code.proofs.stepping.After.{cells_turned, not_set, past_value, right_there, wheres_there, wheres_turned}
use Rattle.pass_frames_code.proofs.stepping.May.{not_returned}
use Rattle.pass_frames_code.proofs.stepping.Names.{cell_is_name}
use Rattle.pass_frames_code.proofs.stepping.Operands.{asked}
use Rattle.pass_frames_code.proofs.stepping.Rest.{LeavesRest, own_slots, rest_related}
use Rattle.pass_frames_code.proofs.stepping.Stands.{made_of, top_is, values_of}
use Rattle.pass_frames_code.specs.Code.{address_state, load_name, slot_table}
use Rattle.pass_frames_code.specs.Framings.{IsFraming}
use Rattle.pass_frames_code.specs.Here.{IsOnLine}
use Rattle.pass_frames_code.specs.Led.{IsNotSet}
use Rattle.pass_frames_code.specs.Lined.{lined}
use Rattle.pass_frames_code.specs.Lines.{IsCellOf, at_work}
use Rattle.pass_frames_code.specs.Places.{Framing, Placed, copies, edged, offsets, plan, written}
use Rattle.pass_frames_code.specs.Related.{AreActivations, AreAhead, AreBuiltOf, AreCellsRight, AreCoroutines, AreNamed, AreWheresRight, Building, HasCells, IsAhead, instance_in, is_coroutine, is_first, point_of, top_place}
use Rattle.pass_frames_code.specs.Stepping.{StandsInPlace, placed_front, state_in}
use Rattle.pass_frames_code.proofs.pass_proofs.fetch.rules.Puts.{fetch_rises}
use Rattle.pass_frames_code.specs.pass_proofs.addresses.rules.Addresses.{lies_in_frame}
use Rattle.pass_frames_code.specs.run_framed.Framed.{frame_rights}
use Rattle.pass_frames_code.specs.run_laws.changed.Changed.{Each}
use Rattle.pass_frames_code.specs.run_laws.memory.Pointers.{Home, IsValue}
use Rattle.pass_frames_code.specs.run_laws.transfer.Transfer.{AreOver}
use Rattle.pass_frames_code.specs.run_memory.Memory.{Rights, owner_rights}
use Rattle.pass_frames_code.specs.run_memory.declared.pointer.Value.{Value}
use Rattle.pass_frames_code.specs.run_source.State.{settled}
use Rattle.pass_frames_code.specs.run_source.declared.state.Activation.{Activation}
use Rattle.pass_frames_code.specs.run_source.declared.state.State.{State}
use Rattle.pass_frames_code.specs.run_step.Step.{Work}
use Rattle.pass_frames_code.specs.run_step.Values.{Env, value_in}

-- whether a name is the result
pub is_result : (o : Option ℕ) (u : ℕ) → (o ≡ Some u) ⊎ (o ≡ Some u → ⊥)
is_result None u = inr (λ e. absurd (cc))
is_result (Some q) u = ⊎_elim (λ e. inl (ap Some (sym e))) (λ n. inr (λ e. n (sym (same e)))) (is_number u q)
  where
    same : Some q ≡ Some u → q ≡ u
    same e = cc

-- what is known behind a line: cells, and which names have got values
pub record IsDoneHere (x : Framing) (homes : List Home) (rights : Rights) (old other : Env) (a : Activation) (i : Instr)
    (front : List Instr) (env : Env) (last : Work) : Type 0 where
  pub cells : AreCellsRight x homes rights last.world.memory env (at_work a last)
  pub set : (u : ℕ) → result_of i ≡ Some u → IsValue homes (value_in env u) (value_in last.values u)
  pub others : (u : ℕ) → Each (IsNotSet u) front → (result_of i ≡ Some u → ⊥)
      → value_in last.values u ≡ value_in other u
  pub room : length last.values ≡ length other
  pub source : (u : ℕ) → (result_of i ≡ Some u → ⊥) → value_in env u ≡ value_in old u
  pub source_room : length env ≡ length old

module _ (b : Building) (s t : State) (r : AreBuiltOf b s t)
    (framings : (func : ℕ) → is_coroutine b func ≡ true → IsFraming (b.framing func)) (i : Instr)
    (h : IsOnLine b s.top i) (line : List Instr)
    (stands : StandsInPlace (b.framing s.top.func) s.top.block s.top.at line)
    (env : Env) (last : Work)
    (led : IsDoneHere (b.framing s.top.func) r.homes (frame_rights b.given t.instances) s.top.values t.top.values t.top i
    (placed_front (b.framing s.top.func) (state_in (b.framing s.top.func) s.top.block s.top.at) i) env last)
    (over : AreOver owner_rights (frame_rights b.given t.instances) r.homes r.hides (λ k. k) s.world last.world)
    (left : LeavesRest b s t r s.world last.world)
    (wheres_here : AreWheresRight (b.framing s.top.func) (frame_rights b.given t.instances) last.world.memory
    (instance_in t.instances t.top.instance) t.top)
    (ahead_here : (name align : ℕ) (ty : Ty) → ((u : ℕ) → IsCellOf (b.framing s.top.func) u → u ≡ name → ⊥)
    → IsAhead (b.framing s.top.func) r.homes r.hides s.world.memory t.world.memory t.top name ty align
    → IsAhead (b.framing s.top.func) r.homes r.hides s.world.memory last.world.memory t.top name ty align) where
  abbrev x : Framing
  x = b.framing s.top.func

  abbrev n : Placed
  n = state_in x s.top.block s.top.at

  abbrev R : Rights
  R = frame_rights b.given t.instances

  abbrev front : List Instr
  front = placed_front x n i

  framing : IsFraming x
  framing = is b s t r framings i h

  -- ---- the activation on top

  abbrev a' : Activation
  a' = record s.top { at = s.top.at + 1; values = env }

  abbrev c' : Activation
  c' = record t.top { at = t.top.at + length line; values = last.values }

  abbrev t' : State
  t' = record t { world = last.world; top = c' }

  place_after : point_of c' ≡ top_place b a'
  place_after =
      (λ k. record {
        block = block_is b s t r framings i h k;
        at = at_is b s t r framings i h k + length line;
      })
      ∙ ap (λ (k : ℕ). record { block = s.top.block; at = k }) (sym stands.1)
      ∙ sym (top_is b a' h.coroutine h.mode)

  abbrev T : List (Option Fetch)
  T = fetches_of (plan x)

  -- names of the coroutine, of temporaries and of their cells aren't set
  unset : (u : ℕ) → (u < load_name n) ⊎ (next_after_all T (load_name n) (instr_operands i) ≤ u)
      → u < (address_state n).0 → Each (IsNotSet u) front
  unset u apart low =
      each_joined (IsNotSet u) (fetches_of_all T (load_name n) (instr_operands i))
      (fetches_of_all (slot_table x) (address_state n).0 (instr_operands (with_fetched T (load_name n) i)))
      (not_set T u (load_name n) (instr_operands i) apart)
      (not_set (slot_table x) u (address_state n).0 (instr_operands (with_fetched T (load_name n) i)) (inl low))

  ordered : load_name n ≤ (address_state n).0
  ordered =
      let up : load_name n ≤ next_after_all T (load_name n) (instr_operands i) =
      fetch_rises T (load_name n) (instr_operands i) in
      let e = h.order.loads in
      let f = h.order.addresses in
      omega (arith, up, e, f)

  unset_low : (u : ℕ) → u < load_name n → Each (IsNotSet u) front
  unset_low u lt = let k = ordered in unset u (inl lt) (omega (arith, lt, k))

  stays_low : (u : ℕ) → u < load_name n → (result_of i ≡ Some u → ⊥)
      → value_in last.values u ≡ value_in t.top.values u
  stays_low u lt differ = led.others u (unset_low u lt) differ

  low_names : length (edged x).names ≤ load_name n
  low_names = low b s t r framings i h

  old : AreCoroutines x r.homes R t s.top t.top
  old = values b s t r framings i h

  same_names : AreNamed x r.homes a' c'
  same_names = record {
    each = λ u asks unkept outside. by_name u unkept outside (cases_lt u (load_name n));
    room = led.room ∙ old.names.room;
  }
    where
      old_value : (u : ℕ) → entry (plan x).places u ≡ None → lies_in_frame (offsets x) u ≡ false
          → IsValue r.homes (value_in s.top.values u) (value_in t.top.values u)
      old_value u unkept outside = old.names.each u (asked x s.top s.top.mode u h.mode) unkept outside

      by_result : (u : ℕ) → u < load_name n → entry (plan x).places u ≡ None → lies_in_frame (offsets x) u ≡ false
          → (result_of i ≡ Some u) ⊎ (result_of i ≡ Some u → ⊥)
          → IsValue r.homes (value_in env u) (value_in last.values u)
      by_result u lt unkept outside (inl e) = led.set u e
      by_result u lt unkept outside (inr differ) =
          subst (λ (p : Value × Value). IsValue r.homes p.0 p.1)
          (λ k. (sym (led.source u differ) k, sym (stays_low u lt differ) k)) (old_value u unkept outside)

      -- a name behind all has no value
      past : (u : ℕ) → load_name n ≤ u → length env ≤ u
      past u le =
          let a = led.source_room in
          let e = h.room in
          let f = low_names in
          omega (arith, a, e, f, le)

      by_name : (u : ℕ) → entry (plan x).places u ≡ None → lies_in_frame (offsets x) u ≡ false
          → (u < load_name n) ⊎ (load_name n ≤ u) → IsValue r.homes (value_in env u) (value_in last.values u)
      by_name u unkept outside (inl lt) = by_result u lt unkept outside (is_result (result_of i) u)
      by_name u unkept outside (inr le) =
          subst (λ (p : Value). IsValue r.homes p (value_in last.values u))
          (sym (past_value env u (past u le))) tt

  -- cells
  right_after : AreCellsRight x r.homes R last.world.memory env c'
  right_after =
      cells_turned R last.world.memory (at_work t.top last) c' x r.homes env refl refl led.cells

  high_of : (e : EarlySlot) → Contains (copies x).slots e
      → ((next_after_all T (load_name n) (instr_operands i) ≤ e.cell) × (e.cell < (address_state n).0))
      × ((next_after_all T (load_name n) (instr_operands i) ≤ e.temporary)
      × (e.temporary < (address_state n).0))
  high_of e listed =
      let z = h.order.slots e listed in
      let le = h.order.loads in
      let p : length (written x).names ≤ e.temporary = z.0.0 in
      let q : length (written x).names ≤ e.cell = z.0.1 in
      ((omega (arith, le, q), z.1.1), (omega (arith, le, p), z.1.0))

  no_result : (u : ℕ) → next_after_all T (load_name n) (instr_operands i) ≤ u → result_of i ≡ Some u → ⊥
  no_result u le e =
      let lt : u < length (edged x).names = (h.unmeasured u e).name.low in
      let low = low_names in
      let up : load_name n ≤ next_after_all T (load_name n) (instr_operands i) =
      fetch_rises T (load_name n) (instr_operands i) in
      omega (arith, lt, low, up, le)

  stays_high : (u : ℕ) → (next_after_all T (load_name n) (instr_operands i) ≤ u) × (u < (address_state n).0)
      → value_in last.values u ≡ value_in t.top.values u
  stays_high u k = led.others u (unset u (inr k.0) k.1) (no_result u k.0)

  wheres_after : AreWheresRight x R last.world.memory (instance_in t.instances t.top.instance) c'
  wheres_after =
      wheres_turned R last.world.memory t.top c' x (instance_in t.instances t.top.instance) refl
      (λ e listed. (stays_high e.cell (high_of e listed).0, stays_high e.temporary (high_of e listed).1))
      wheres_here

  after : AreCoroutines x r.homes R t' a' c'
  after = record {
    names = same_names;
    cells = subst
        (λ (o : Option ℕ). HasCells x r.homes R last.world.memory (instance_in t.instances t.top.instance) a' c' o)
        (sym (not_returned x a' s.top.mode h.mode h.unreturned)) (right_after, wheres_after);
    made = made_of x R last.world.memory c' s.top.mode h.mode (
      right_there x framing r.homes R last.world.memory env c' right_after,
      wheres_there x R last.world.memory c' (instance_in t.instances t.top.instance) wheres_after,
    );
  }

  top_after : AreActivations b r.homes r.hides t' (top_place b) a' c'
  top_after = record {
    func = r.top.func;
    place = place_after;
    result = r.top.result;
    mode = r.top.mode;
    instance = r.top.instance;
    has_left = r.top.has_left;
    values = values_of b r.homes R t' a' c' (is_coroutine b s.top.func) h.coroutine after;
    slots = own_slots b s t r s.world last.world left s.top.block (s.top.at + 1)
        t.top.block (t.top.at + length line) env last.values;
  }

  -- allocas that are still to come
  ahead_after : is_coroutine b s.top.func ≡ true → is_first s.top.mode ≡ true → s.top.block ≡ 0
      → AreAhead x r.homes r.hides s.world.memory last.world.memory a' c'
  ahead_after is first block = record {
    slots = λ at u align ty e le outside.
        let k = h.allocas at u align ty e in
        let one = (r.ahead.0 is first block).slots at u align ty e (omega (arith, le)) outside in
        turned u ty align
        (ahead_here u align ty (λ z of same. let lt = k.0 in let far = of.0 in omega (arith, lt, far, same)) one)
        (stays_low u (let lt = k.0 in let low = low_names in omega (arith, lt, low)) k.1);
    temporaries = λ e at align ty listed there le.
        let one = (r.ahead.0 is first block).temporaries e at align ty listed there (omega (arith, le)) in
        turned e.temporary e.ty e.align
        (ahead_here e.temporary e.align e.ty
        (λ z of same. (cell_is_name x z of).no_temporary e listed (sym same)) one)
        (stays_high e.temporary (high_of e listed).1);
  }
    where
      turned : (u : ℕ) (ty : Ty) (align : ℕ)
          → (one : IsAhead x r.homes r.hides s.world.memory last.world.memory t.top u ty align)
          → value_in last.values u ≡ value_in t.top.values u
          → IsAhead x r.homes r.hides s.world.memory last.world.memory c' u ty align
      turned u ty align one value = record {
        block = one.block;
        address = value ∙ one.address;
        own = one.own;
        free = one.free;
        bytes = one.bytes;
        sized = one.sized;
        there = one.there;
      }

  pub related_after : AreBuiltOf b (settled s (record { world = s.world; values = env })) (lined t (length line) last)
  related_after =
      rest_related b s t r s.world last.world left s.top.block (s.top.at + 1)
      t.top.block (t.top.at + length line) env last.values over
      ahead_after top_after
