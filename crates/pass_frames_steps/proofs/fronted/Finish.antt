-- Behind a line that leaves the source as it is the states are related, where what it leaves is known.
use Rattle.std.proofs.Common.{◌≡◌, ◌⊎◌, ◌+◌, ◌<◌, ◌≤◌, ◌∙◌, List, None, Option, Some, ap, arith, false, inl, inr}
use Rattle.std.proofs.Common.{length, refl, subst, sym, true, ℕ}
use Rattle.std.proofs.lemmas.Bool.{cases_lt}
use Rattle.std.specs.List.{Contains}
use Rattle.pass_frames_code.specs.ir_model.Ty.{Ty}
use Rattle.pass_frames_code.specs.ir_model.declared.instr.Instr.{Instr}
use Rattle.pass_frames_code.specs.ir_parts.Contents.{result_of}
use Rattle.pass_frames_code.specs.pass_cells.Kept.{entry}
use Rattle.pass_frames_code.specs.pass_copies.declared.slot.EarlySlot.{EarlySlot}
use Rattle.pass_frames_steps.proofs.fronted.State.{at_is, block_is, is, values}
use Rattle.pass_frames_steps.proofs.here.Finish.{IsDoneHere, is_result}
use Rattle.pass_frames_code.proofs.stepping.After.{cells_turned, past_value, right_there, wheres_there}
use Rattle.pass_frames_code.proofs.stepping.After.{wheres_turned}
use Rattle.pass_frames_code.proofs.stepping.May.{not_returned}
use Rattle.pass_frames_code.proofs.stepping.Names.{cell_is_name, edged_named, named_written, slots_new}
use Rattle.pass_frames_code.proofs.stepping.Operands.{asked}
use Rattle.pass_frames_code.proofs.stepping.Rest.{LeavesRest, own_slots, rest_related}
use Rattle.pass_frames_code.proofs.stepping.Stands.{made_of, top_is, values_of}
use Rattle.pass_frames_code.specs.Framings.{IsFraming}
use Rattle.pass_frames_code.specs.Fronted.{IsFronted}
use Rattle.pass_frames_code.specs.Lined.{lined}
use Rattle.pass_frames_code.specs.Lines.{IsCellOf, at_work}
use Rattle.pass_frames_code.specs.Places.{Framing, copies, edged, named, offsets, plan, written}
use Rattle.pass_frames_code.specs.Related.{AreActivations, AreAhead, AreBuiltOf, AreCellsRight, AreCoroutines}
use Rattle.pass_frames_code.specs.Related.{AreNamed, AreWheresRight, Building, HasCells, IsAhead, instance_in}
use Rattle.pass_frames_code.specs.Related.{is_coroutine, is_first, point_of, top_place}
use Rattle.pass_frames_code.specs.Stepping.{StandsInPlace}
use Rattle.pass_frames_code.specs.pass_proofs.addresses.rules.Addresses.{lies_in_frame}
use Rattle.pass_frames_code.specs.run_framed.Framed.{frame_rights}
use Rattle.pass_frames_code.specs.run_laws.memory.Pointers.{IsValue}
use Rattle.pass_frames_code.specs.run_laws.transfer.Transfer.{AreOver}
use Rattle.pass_frames_code.specs.run_memory.Memory.{Rights, owner_rights}
use Rattle.pass_frames_code.specs.run_memory.declared.pointer.Value.{Value}
use Rattle.pass_frames_code.specs.run_source.State.{settled}
use Rattle.pass_frames_code.specs.run_source.declared.state.Activation.{Activation}
use Rattle.pass_frames_code.specs.run_source.declared.state.State.{State}
use Rattle.pass_frames_code.specs.run_step.Step.{Work}
use Rattle.pass_frames_code.specs.run_step.Values.{Env, value_in}

module _ (b : Building) (s t : State) (r : AreBuiltOf b s t)
    (framings : (func : ℕ) → is_coroutine b func ≡ true → IsFraming (b.framing func)) (i : Instr)
    (front : List Instr) (h : IsFronted b s.top i front) (line : List Instr)
    (stands : StandsInPlace (b.framing s.top.func) s.top.block s.top.at line)
    (env : Env) (last : Work)
    (led : IsDoneHere (b.framing s.top.func) r.homes (frame_rights b.given t.instances) s.top.values t.top.values t.top i
    front env last)
    (over : AreOver owner_rights (frame_rights b.given t.instances) r.homes r.hides (λ k. k) s.world last.world)
    (left : LeavesRest b s t r s.world last.world)
    (wheres_here : AreWheresRight (b.framing s.top.func) (frame_rights b.given t.instances) last.world.memory
    (instance_in t.instances t.top.instance) t.top)
    (ahead_here : (name align : ℕ) (ty : Ty) → ((u : ℕ) → IsCellOf (b.framing s.top.func) u → u ≡ name → ⊥)
    → IsAhead (b.framing s.top.func) r.homes r.hides s.world.memory t.world.memory t.top name ty align
    → IsAhead (b.framing s.top.func) r.homes r.hides s.world.memory last.world.memory t.top name ty align) where
  abbrev x : Framing
  x = b.framing s.top.func

  abbrev n : ℕ
  n = length (named x).names

  abbrev R : Rights
  R = frame_rights b.given t.instances

  framing : IsFraming x
  framing = is b s t r framings h.going

  -- ---- the activation on top

  abbrev a' : Activation
  a' = record s.top { at = s.top.at + 1; values = env }

  abbrev c' : Activation
  c' = record t.top { at = t.top.at + length line; values = last.values }

  abbrev t' : State
  t' = record t { world = last.world; top = c' }

  place_after : point_of c' ≡ top_place b a'
  place_after =
      (λ k. record {
        block = block_is b s t r framings h.going k;
        at = at_is b s t r framings h.going k + length line;
      })
      ∙ ap (λ (k : ℕ). record { block = s.top.block; at = k }) (sym stands.1)
      ∙ sym (top_is b a' h.going.coroutine h.going.mode)

  stays_low : (u : ℕ) → u < n → (result_of i ≡ Some u → ⊥) → value_in last.values u ≡ value_in t.top.values u
  stays_low u lt differ = led.others u (h.low u lt) differ

  low_names : length (edged x).names ≤ n
  low_names = edged_named x

  old : AreCoroutines x r.homes R t s.top t.top
  old = values b s t r framings h.going

  same_names : AreNamed x r.homes a' c'
  same_names = record {
    each = λ u asks unkept outside. by_name u unkept outside (cases_lt u (n));
    room = led.room ∙ old.names.room;
  }
    where
      old_value : (u : ℕ) → entry (plan x).places u ≡ None → lies_in_frame (offsets x) u ≡ false
          → IsValue r.homes (value_in s.top.values u) (value_in t.top.values u)
      old_value u unkept outside = old.names.each u (asked x s.top s.top.mode u h.going.mode) unkept outside

      by_result : (u : ℕ) → u < n → entry (plan x).places u ≡ None → lies_in_frame (offsets x) u ≡ false
          → (result_of i ≡ Some u) ⊎ (result_of i ≡ Some u → ⊥)
          → IsValue r.homes (value_in env u) (value_in last.values u)
      by_result u lt unkept outside (inl e) = led.set u e
      by_result u lt unkept outside (inr differ) =
          subst (λ (p : Value × Value). IsValue r.homes p.0 p.1)
          (λ k. (sym (led.source u differ) k, sym (stays_low u lt differ) k)) (old_value u unkept outside)

      -- a name behind all has no value
      past : (u : ℕ) → n ≤ u → length env ≤ u
      past u le =
          let a = led.source_room in
          let e = h.room in
          let f = low_names in
          omega (arith, a, e, f, le)

      by_name : (u : ℕ) → entry (plan x).places u ≡ None → lies_in_frame (offsets x) u ≡ false
          → (u < n) ⊎ (n ≤ u) → IsValue r.homes (value_in env u) (value_in last.values u)
      by_name u unkept outside (inl lt) = by_result u lt unkept outside (is_result (result_of i) u)
      by_name u unkept outside (inr le) =
          subst (λ (p : Value). IsValue r.homes p (value_in last.values u))
          (sym (past_value env u (past u le))) tt

  -- cells
  right_after : AreCellsRight x r.homes R last.world.memory env c'
  right_after =
      cells_turned R last.world.memory (at_work t.top last) c' x r.homes env refl refl led.cells

  no_result : (u : ℕ) → length (written x).names ≤ u → result_of i ≡ Some u → ⊥
  no_result u le e =
      let lt : u < length (edged x).names = (h.unmeasured u e).name.low in
      let low = low_names in
      let more : length (named x).names ≤ length (written x).names = named_written x in
      omega (arith, lt, low, more, le)

  cell_stays : (e : EarlySlot) → Contains (copies x).slots e
      → value_in last.values e.cell ≡ value_in t.top.values e.cell
  cell_stays e listed = led.others e.cell (h.cells e listed) (no_result e.cell (slots_new x e listed).1)

  temporary_stays : (e : EarlySlot) → Contains (copies x).slots e
      → value_in last.values e.temporary ≡ value_in t.top.values e.temporary
  temporary_stays e listed =
      led.others e.temporary (h.temporaries e listed) (no_result e.temporary (slots_new x e listed).0)

  wheres_after : AreWheresRight x R last.world.memory (instance_in t.instances t.top.instance) c'
  wheres_after =
      wheres_turned R last.world.memory t.top c' x (instance_in t.instances t.top.instance) refl
      (λ e listed. (cell_stays e listed, temporary_stays e listed))
      wheres_here

  after : AreCoroutines x r.homes R t' a' c'
  after = record {
    names = same_names;
    cells = subst
        (λ (o : Option ℕ). HasCells x r.homes R last.world.memory (instance_in t.instances t.top.instance) a' c' o)
        (sym (not_returned x a' s.top.mode h.going.mode h.going.unreturned)) (right_after, wheres_after);
    made = made_of x R last.world.memory c' s.top.mode h.going.mode (
      right_there x framing r.homes R last.world.memory env c' right_after,
      wheres_there x R last.world.memory c' (instance_in t.instances t.top.instance) wheres_after,
    );
  }

  top_after : AreActivations b r.homes r.hides t' (top_place b) a' c'
  top_after = record {
    func = r.top.func;
    place = place_after;
    result = r.top.result;
    mode = r.top.mode;
    instance = r.top.instance;
    has_left = r.top.has_left;
    values = values_of b r.homes R t' a' c' (is_coroutine b s.top.func) h.going.coroutine after;
    slots = own_slots b s t r s.world last.world left s.top.block (s.top.at + 1)
        t.top.block (t.top.at + length line) env last.values;
  }

  -- allocas that are still to come
  ahead_after : is_coroutine b s.top.func ≡ true → is_first s.top.mode ≡ true → s.top.block ≡ 0
      → AreAhead x r.homes r.hides s.world.memory last.world.memory a' c'
  ahead_after is first block = record {
    slots = λ at u align ty e le outside.
        let k = h.allocas at u align ty e in
        let one = (r.ahead.0 is first block).slots at u align ty e (omega (arith, le)) outside in
        turned u ty align
        (ahead_here u align ty (λ z of same. let lt = k.0 in let far = of.0 in omega (arith, lt, far, same)) one)
        (stays_low u (let lt = k.0 in let low = low_names in omega (arith, lt, low)) k.1);
    temporaries = λ e at align ty listed there le.
        let one = (r.ahead.0 is first block).temporaries e at align ty listed there (omega (arith, le)) in
        turned e.temporary e.ty e.align
        (ahead_here e.temporary e.align e.ty
        (λ z of same. (cell_is_name x z of).no_temporary e listed (sym same)) one)
        (temporary_stays e listed);
  }
    where
      turned : (u : ℕ) (ty : Ty) (align : ℕ)
          → (one : IsAhead x r.homes r.hides s.world.memory last.world.memory t.top u ty align)
          → value_in last.values u ≡ value_in t.top.values u
          → IsAhead x r.homes r.hides s.world.memory last.world.memory c' u ty align
      turned u ty align one value = record {
        block = one.block;
        address = value ∙ one.address;
        own = one.own;
        free = one.free;
        bytes = one.bytes;
        sized = one.sized;
        there = one.there;
      }

  pub related_after : AreBuiltOf b (settled s (record { world = s.world; values = env })) (lined t (length line) last)
  related_after =
      rest_related b s t r s.world last.world left s.top.block (s.top.at + 1)
      t.top.block (t.top.at + length line) env last.values over
      ahead_after top_after
