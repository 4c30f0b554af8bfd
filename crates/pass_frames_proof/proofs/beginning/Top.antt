-- Behind begin the activation on top is related again.
use Rattle.std.proofs.Common.{◌≡◌, ◌≢◌, ◌⊎◌, ◌+◌, ◌<◌, ◌≤◌, ◌&&◌, ◌∷◌, ◌∙◌, Bool, List, None, Option, Some, ap, append-nil, arith, false, inl, inr, length, length-append, not, refl, subst, sym, true, ℕ, ⊎_elim}
use Rattle.std.proofs.lemmas.Bool.{cases_lt}
use Rattle.std.specs.List.{Contains}
use Rattle.std.specs.Prelude.{filter}
use Rattle.pass_frames_steps.specs.flow_solver.Paths.{IsListed}
use Rattle.pass_frames_steps.specs.ir_model.Ty.{Ty}
use Rattle.pass_frames_steps.specs.ir_parts.Contents.{instr_operands}
use Rattle.pass_frames_steps.specs.pass_cells.Cells.{fetches_of}
use Rattle.pass_frames_steps.specs.pass_cells.Kept.{entry}
use Rattle.pass_frames_steps.specs.pass_copies.declared.slot.EarlySlot.{EarlySlot}
use Rattle.pass_frames_steps.specs.pass_fetch.Fetching.{next_after_all}
use Rattle.pass_frames_steps.proofs.allocating.Grown.{listed_in}
use Rattle.pass_frames_steps.proofs.allocating.Ramp.{value_here}
use Rattle.pass_frames_proof.proofs.beginning.AllCopied.{long}
use Rattle.pass_frames_proof.proofs.beginning.Copied.{early}
use Rattle.pass_frames_proof.proofs.beginning.Frame.{C, n1}
use Rattle.pass_frames_proof.proofs.beginning.Given.{Begins}
use Rattle.pass_frames_proof.proofs.beginning.Homes.{hides, homes}
use Rattle.pass_frames_proof.proofs.beginning.Loads.{Front, I, Line, N0, One, W, is, low_names, not_entering, old, same_room}
use Rattle.pass_frames_proof.proofs.beginning.Places.{B, M, X, free_apart, home_is, in_filter, seen}
use Rattle.pass_frames_proof.proofs.beginning.Rest.{ahead_on, c'', free_on, many, more, now, u', w}
use Rattle.pass_frames_proof.proofs.beginning.Steps.{Copies, at_place, begun_top, ramps, stands_here, top_slots}
use Rattle.pass_frames_proof.proofs.early.Placed.{cells_apart}
use Rattle.pass_frames_steps.proofs.lines.Cells.{contained, other_block}
use Rattle.pass_frames_steps.proofs.stepping.After.{past_value, right_there, wheres_there}
use Rattle.pass_frames_steps.proofs.stepping.Finish.{is_result}
use Rattle.pass_frames_steps.proofs.stepping.May.{not_returned, own_blocks}
use Rattle.pass_frames_steps.proofs.stepping.Names.{slots_new}
use Rattle.pass_frames_steps.proofs.stepping.Operands.{asked}
use Rattle.pass_frames_steps.proofs.stepping.Stands.{made_of, top_is, values_of}
use Rattle.pass_frames_steps.specs.Beginning.{IsAtBegin, is_in_frame}
use Rattle.pass_frames_steps.specs.Moved.{IsTopMoved}
use Rattle.pass_frames_steps.specs.Places.{Framing, edged, framed, offsets, place, plan, written}
use Rattle.pass_frames_steps.specs.Related.{AreActivations, AreAhead, AreBuiltOf, AreCoroutines, AreNamed, Building, HasCells, IsAhead, IsOwnSlot, IsSlotBy, IsWholeSlot, instance_in, is_coroutine, is_first, point_of, top_place}
use Rattle.pass_frames_steps.specs.Stepping.{AreGiven}
use Rattle.pass_frames_steps.proofs.pass_proofs.fetch.rules.Puts.{fetch_rises}
use Rattle.pass_frames_steps.specs.pass_proofs.addresses.rules.Addresses.{lies_in_frame}
use Rattle.pass_frames_steps.specs.pass_renewed_proof.Renewed.{RenewedGiven}
use Rattle.pass_frames_steps.specs.run_framed.Framed.{frame_rights}
use Rattle.pass_frames_steps.proofs.run_laws.memory.Homes.{value_on}
use Rattle.pass_frames_steps.specs.run_laws.embedded.Making.{whole_home}
use Rattle.pass_frames_steps.specs.run_laws.memory.Pointers.{Home, IsValue, home_of}
use Rattle.pass_frames_steps.specs.run_memory.Memory.{Rights}
use Rattle.pass_frames_steps.specs.run_memory.Pointers.{moved, offset_of}
use Rattle.pass_frames_steps.specs.run_memory.declared.block.MemoryBlock.{MemoryBlock}
use Rattle.pass_frames_steps.specs.run_memory.declared.pointer.Pointer.{Pointer}
use Rattle.pass_frames_steps.specs.run_memory.declared.pointer.Value.{Value}
use Rattle.pass_frames_steps.specs.run_source.Source.{is_among}
use Rattle.pass_frames_steps.specs.run_source.declared.state.Activation.{Activation}
use Rattle.pass_frames_steps.specs.run_source.declared.state.State.{State}
use Rattle.pass_frames_steps.specs.run_step.Values.{Env, pointer_to, value_in, with_result}
use Rattle.pass_frames_steps.specs.run_step.declared.world.Slot.{Slot}
use Rattle.pass_frames_proof.proofs.beginning.TopCells.{result_length, rises, other_source, other_target, new_target, right_now, wheres_now}

module _ (facts : Begins) where
  abbrev b : Building
  b = facts.b

  abbrev g : RenewedGiven
  g = facts.g

  abbrev s : State
  s = facts.s

  abbrev t : State
  t = facts.t

  abbrev r : AreBuiltOf b s t
  r = facts.r

  abbrev given : AreGiven b g
  given = facts.given

  abbrev block : ℕ
  block = facts.block

  abbrev h : IsAtBegin b g s facts.result facts.must_tail facts.ty facts.id facts.typed facts.memory block
  h = facts.h

  abbrev x : Framing
  x = X facts

  abbrev k : ℕ
  k = B facts

  abbrev P0 : Rights
  P0 = frame_rights b.given t.instances

  abbrev Q0 : Rights
  Q0 = frame_rights b.given (now facts)

  abbrev n0 : List MemoryBlock
  n0 = n1 facts

  abbrev homes' : List Home
  homes' = homes facts

  abbrev hides' : ℕ → Bool
  hides' = hides facts

  abbrev a' : Activation
  a' = begun_top g.given s facts.result block

  abbrev c1 : Activation
  c1 = c'' facts

  abbrev env : Env
  env = with_result s.top.values facts.result (pointer_to block)

  pointer_there : IsValue homes' (pointer_to block) (pointer_to k)
  pointer_there =
      let whole : home_of homes' block ≡ whole_home k = (more facts).each block (seen facts) ∙ home_is facts in (
        ap (λ (p : Home). p.is_seen) whole,
        ap (λ (p : Home). Value.Ptr (Pointer.At p.block (moved (offset_of 0) p.offset))) (sym whole),
      )

  names : AreNamed x homes' a' c1
  names = record {
    each = λ v asks unkept outside. ⊎_elim (λ lt. by v lt unkept outside (is_result facts.result v)) (λ le. past v le)
        (cases_lt v (N0 facts));
    room = (C facts).over.room ∙ long facts;
  }
    where
      past : (v : ℕ) → N0 facts ≤ v → IsValue homes' (value_in env v) (value_in c1.values v)
      past v le =
          subst (λ (a : Value). IsValue homes' a (value_in c1.values v))
          (sym (past_value env v
          (let all = result_length s.top.values facts.result (pointer_to block) in
          let room = h.room in
          let low = low_names facts in
          omega (arith, all, room, low, le)))) tt

      by : (v : ℕ) → v < N0 facts → entry (plan x).places v ≡ None → lies_in_frame (offsets x) v ≡ false
          → (facts.result ≡ Some v) ⊎ (facts.result ≡ Some v → ⊥)
          → IsValue homes' (value_in env v) (value_in c1.values v)
      by v lt unkept outside (inl e) =
          subst (λ (p : Value × Value). IsValue homes' p.0 p.1) (λ j. (sym here j, sym there j)) pointer_there
        where
          here : value_in env v ≡ pointer_to block
          here =
              ap (λ (o : Option ℕ). value_in (with_result s.top.values o (pointer_to block)) v) e
              ∙ value_here s.top.values v (pointer_to block)
              (let low = (h.named v e).0.name.low in let room = h.room in omega (arith, low, room))

          there : value_in c1.values v ≡ pointer_to k
          there =
              (C facts).over.others v (let up = rises facts in omega (arith, lt, up))
              ∙ ap (λ (o : Option ℕ). value_in (with_result (W facts).values o (pointer_to k)) v) e
              ∙ value_here (W facts).values v (pointer_to k)
              (let low = (h.named v e).2 in
              let room : length t.top.values ≡ length (framed x).names = (old facts).names.room in
              let all : length (W facts).values ≡ length t.top.values = same_room facts in
              omega (arith, low, room, all))
      by v lt unkept outside (inr ne) =
          subst (λ (p : Value × Value). IsValue homes' p.0 p.1)
          (λ j. (sym (other_source facts v ne) j, sym (other_target facts v lt ne) j))
          (value_on r.homes homes' (more facts) (value_in s.top.values v) (value_in t.top.values v)
          ((old facts).names.each v (asked x s.top s.top.mode v (not_entering facts)) unkept outside))

  abbrev pub t'' : State
  t'' = record t { world = u' facts; instances = now facts; top = c1 }

  after : AreCoroutines x homes' Q0 t'' a' c1
  after = record {
    names = names;
    cells = subst
        (λ (o : Option ℕ). HasCells x homes' Q0 n0 (instance_in (now facts) (Some (length t.instances))) a' c1 o)
        (sym (not_returned x a' s.top.mode (not_entering facts) h.unreturned)) (right_now facts, wheres_now facts);
    made = made_of x Q0 n0 c1 s.top.mode (not_entering facts) (
      right_there x (is facts) homes' Q0 n0 env c1 (right_now facts),
      wheres_there x Q0 n0 c1 (instance_in (now facts) (Some (length t.instances))) (wheres_now facts),
    );
  }

  place_is : point_of c1 ≡ top_place b a'
  place_is =
      (λ m. record { block = (at_place facts m).block; at = (at_place facts m).at + length (Front facts) + 1 + length (Copies facts) })
      ∙ ap (λ (n : ℕ). record { block = s.top.block; at = n }) behind
      ∙ sym (top_is b a' h.coroutine (not_entering facts))
    where
      summed : (a m c d : ℕ) → d ≡ m + (1 + c) → a + m + 1 + c ≡ a + d
      summed a m c d e = omega (arith, e)

      whole : length (Line facts) ≡ length (Front facts) + (1 + length (Copies facts))
      whole =
          length-append (Front facts) (One facts ∷ Copies facts)
          ∙ (let e : length (One facts ∷ Copies facts) ≡ 1 + length (Copies facts) = omega arith in
          ap (λ (n : ℕ). length (Front facts) + n) e)

      behind : (place x (record { block = s.top.block; at = s.top.at })).at + length (Front facts) + 1
          + length (Copies facts) ≡ (place x (record { block = s.top.block; at = s.top.at + 1 })).at
      behind =
          summed (place x (record { block = s.top.block; at = s.top.at })).at (length (Front facts))
          (length (Copies facts)) (length (Line facts)) whole
          ∙ sym (stands_here facts).1

  slots_now : (slot : Slot) → Contains a'.slots slot → IsOwnSlot b homes' hides' a' c1 slot
  slots_now slot e =
      subst (IsSlotBy b homes' hides' a' c1 slot) (sym off) (record {
        block = old'.block;
        home = (more facts).each slot.block (ap (λ (p : Home). p.is_seen) old'.home) ∙ old'.home;
        own = old'.own;
      })
    where
      from : IsListed slot s.top.slots × (is_among (ramps g.given s facts.result block) slot ≡ true)
      from =
          in_filter (is_among (ramps g.given s facts.result block)) s.top.slots slot
          (subst (IsListed slot) (append-nil (filter (is_among (ramps g.given s facts.result block)) s.top.slots))
          (contained (top_slots g.given s facts.result block) slot e))

      own' : Contains s.top.slots slot
      own' = listed_in s.top.slots slot from.0

      out : is_in_frame x slot ≡ false
      out = outside (is_in_frame x slot) (sym (h.classes slot own') ∙ from.1)
        where
          outside : (f : Bool) → not f ≡ true → f ≡ false
          outside true e' = absurd (cc)
          outside false e' = refl

      off : (is_coroutine b s.top.func && is_in_frame x slot) ≡ false
      off = λ j. h.coroutine j && out j

      old' : IsWholeSlot r.homes t.top slot
      old' = subst (IsSlotBy b r.homes r.hides s.top t.top slot) off (r.top.slots slot own')

  top_now : AreActivations b homes' hides' t'' (top_place b) a' c1
  top_now = record {
    func = r.top.func;
    place = place_is;
    result = r.top.result;
    mode = r.top.mode;
    instance = ap Some (many facts);
    has_left = r.top.has_left;
    values = values_of b homes' Q0 t'' a' c1 (is_coroutine b s.top.func) h.coroutine after;
    slots = slots_now;
  }

  -- ---- what is ahead

  turned : (v align : ℕ) (ty : Ty) → value_in c1.values v ≡ value_in t.top.values v
      → (e : IsAhead x r.homes r.hides s.world.memory t.world.memory t.top v ty align)
      → ((f : EarlySlot) → IsListed f (early facts) → f.cell ≢ v)
      → IsAhead x homes' hides' (M facts) n0 c1 v ty align
  turned v align ty same e apart =
      let f = ahead_on facts x t.top v align ty e (
        free_apart facts e.block e.free,
        λ z l co. other_block t.top z.cell v e.block e.block (own_blocks t r.once) co e.own (apart z l) refl,
      ) in
      record {
        block = f.block;
        address = same ∙ f.address;
        own = f.own;
        free = f.free;
        bytes = f.bytes;
        sized = f.sized;
        there = f.there;
      }

  ahead_top : is_coroutine b s.top.func ≡ true → is_first s.top.mode ≡ true → s.top.block ≡ 0
      → AreAhead x homes' hides' (M facts) n0 a' c1
  ahead_top coroutine first zero_is = record {
    slots = λ at v align ty there le out.
        let low : v < length (edged x).names = (h.names at v align ty there).0 in
        turned v align ty
        (other_target facts v (let up = low_names facts in omega (arith, low, up)) (h.names at v align ty there).1)
        ((r.ahead.0 coroutine first zero_is).slots at v align ty there (omega (arith, le)) out)
        (λ f l same. low_apart v low f l same);
    temporaries = λ e at align ty listed there le.
        turned e.temporary e.align e.ty (new_target facts e listed).1
        ((r.ahead.0 coroutine first zero_is).temporaries e at align ty listed there (omega (arith, le)))
        (λ f l. cells_apart x f e l (contained (early facts) e listed));
  }
    where
      low_apart : (v : ℕ) → v < length (edged x).names → (f : EarlySlot) → IsListed f (early facts) → f.cell ≡ v → ⊥
      low_apart v low f l same =
          let up = low_names facts in
          let few = h.order.loads in
          let rise : N0 facts ≤ next_after_all (fetches_of (plan x)) (N0 facts) (instr_operands (I facts)) =
          fetch_rises (fetches_of (plan x)) (N0 facts) (instr_operands (I facts)) in
          let high : length (written x).names ≤ f.cell = (slots_new x f (listed_in (early facts) f l)).1 in
          omega (arith, low, up, few, rise, high, same)

  pub top_moved : IsTopMoved b s t homes' hides' (now facts) (w facts) (u' facts) a' c1
  top_moved = record {
    top = top_now;
    once = r.once;
    cells = λ coroutine slot own' name. free_on facts slot.block (r.cells.0 coroutine slot own' name);
    ahead = ahead_top;
  }
