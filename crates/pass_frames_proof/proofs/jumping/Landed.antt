-- Behind a jump and the stores of phis the states are related.
use Rattle.std.proofs.Common.{◌≡◌, ◌⊎◌, inl, inr, ℕ, ◌<◌, ◌≤◌, true, false, List, length, refl, sym, ap, ◌∙◌, subst, arith}
use Rattle.std.proofs.lemmas.Bool.{cases_lt}
use Rattle.std.specs.List.{Contains}
use Rattle.std.specs.Prelude.{None, Option, map, slice_get}
use Rattle.pass_frames_steps.specs.flow_solver.Paths.{IsListed}
use Rattle.pass_frames_steps.specs.ir_model.Ty.{ptr}
use Rattle.pass_frames_steps.specs.ir_model.declared.instr.Instr.{Instr}
use Rattle.pass_frames_steps.specs.ir_model.declared.instr.Terminator.{Terminator}
use Rattle.pass_frames_steps.specs.pass_cells.Kept.{entry}
use Rattle.pass_frames_steps.specs.pass_copies.declared.slot.EarlySlot.{EarlySlot}
use Rattle.pass_frames_steps.specs.pass_fetch.Fetching.{value_bytes}
use Rattle.pass_frames_steps.proofs.followed.Assembly.{events_same, other_instance}
use Rattle.pass_frames_proof.proofs.jumping.Before.{all_before, cells_before, far, free_before, old_names}
use Rattle.pass_frames_proof.proofs.jumping.Pairs.{AreAllSet}
use Rattle.pass_frames_steps.proofs.lines.Cells.{other_block}
use Rattle.pass_frames_steps.proofs.stepping.After.{cells_turned, past_value, right_there, wheres_there, wheres_turned}
use Rattle.pass_frames_steps.proofs.stepping.May.{not_returned, own_blocks}
use Rattle.pass_frames_steps.proofs.stepping.Names.{cell_is_name, named_written, slots_new}
use Rattle.pass_frames_steps.proofs.stepping.Operands.{asked}
use Rattle.pass_frames_steps.proofs.stepping.Rest.{LeavesRest, below_apart, instance_kept, own_slots, rest_related, stood_apart}
use Rattle.pass_frames_steps.proofs.stepping.Same.{kept, rest_left}
use Rattle.pass_frames_steps.proofs.stepping.Stands.{made_of, top_is, values_of}
use Rattle.pass_frames_steps.specs.Edges.{AreEndsLed, AreFrontsLed, FrontsInPlace, IsAtJump, block_to, entered_phis, entered_work}
use Rattle.pass_frames_steps.specs.Followed.{IsOn}
use Rattle.pass_frames_steps.specs.Framings.{IsFraming}
use Rattle.pass_frames_steps.specs.Led.{SparesBlocks}
use Rattle.pass_frames_steps.specs.Lines.{IsCellOf, at_work}
use Rattle.pass_frames_steps.specs.Places.{Framing, copies, edged, named, offsets, plan, written}
use Rattle.pass_frames_steps.specs.Related.{AreActivations, AreBuiltOf, AreCellsRight, AreCoroutines, AreNamed, AreWheresRight, Building, HasCells, IsCellName, IsFreeOf, instance_in, is_coroutine, point_of, slots_below, top_place}
use Rattle.pass_frames_steps.specs.Stepping.{AreGiven}
use Rattle.pass_frames_steps.specs.pass_proofs.addresses.rules.Addresses.{lies_in_frame}
use Rattle.pass_frames_steps.specs.pass_renewed_proof.Renewed.{RenewedGiven}
use Rattle.pass_frames_steps.specs.run_framed.Framed.{frame_rights}
use Rattle.pass_frames_steps.specs.run_laws.memory.Pointers.{IsValue, home_of}
use Rattle.pass_frames_steps.specs.run_memory.Memory.{Rights}
use Rattle.pass_frames_steps.specs.run_memory.declared.pointer.Value.{Value}
use Rattle.pass_frames_steps.specs.run_source.declared.state.Activation.{Activation}
use Rattle.pass_frames_steps.specs.run_source.declared.state.State.{State}
use Rattle.pass_frames_steps.specs.run_step.Step.{Work, with_all}
use Rattle.pass_frames_steps.specs.run_step.Values.{Env, value_in}
use Rattle.pass_frames_steps.specs.run_step.declared.world.Slot.{Slot}
use Rattle.pass_frames_steps.specs.run_step.declared.world.World.{World}

module _ (b : Building) (g : RenewedGiven) (given : AreGiven b g) (s t : State) (r : AreBuiltOf b s t)
    (e other : Terminator) (label : ℕ) (line front : List Instr) (h : IsAtJump b g s e label)
    (fronts : FrontsInPlace (b.framing s.top.func) (block_to (b.framing s.top.func) label) front)
    (ends : AreEndsLed b g s t r label line other) (led : AreFrontsLed b g s t r label ends.work front) where
  abbrev pub x : Framing
  x = b.framing s.top.func

  abbrev pub R : Rights
  R = frame_rights b.given t.instances

  abbrev pub k : ℕ
  k = block_to x label

  pub is : IsFraming x
  is = given.framings s.top.func h.coroutine

  cells : AreCellsRight x r.homes R t.world.memory s.top.values t.top
      × AreWheresRight x R t.world.memory (instance_in t.instances t.top.instance) t.top
  cells = cells_before b g given s t r e other label line h ends

  free : (slot : Slot) → Contains t.top.slots slot → IsCellName x slot.alloca
      → IsFreeOf r.homes r.hides s.world.memory slot.block
  free = free_before b g given s t r e other label line h ends

  -- ---- cells alone are touched

  abbrev Touched : ℕ → Type 0
  Touched n = (slot : Slot) × Contains t.top.slots slot × IsCellOf x slot.alloca × (slot.block ≡ n)

  stood : (n : ℕ) → n < length s.world.memory → (home_of r.homes n).is_seen ≡ true
      → Touched (home_of r.homes n).block → ⊥
  stood n lt seen z =
      stood_apart b s t r z.0.block n (free z.0 z.1 (cell_is_name x z.0.alloca z.2)) lt seen (sym z.3)

  others_apart : (n : ℕ) → IsListed n (map (λ (slot : Slot). slot.block) (slots_below t.below)) → Touched n → ⊥
  others_apart n l z =
      below_apart b s t r z.0 z.1
      (subst (λ (u : ℕ). IsListed u (map (λ (slot : Slot). slot.block) (slots_below t.below))) (sym z.3) l)

  same_blocks : (u : World) → SparesBlocks x t.top t.world.memory u.memory → (n : ℕ) → (Touched n → ⊥)
      → slice_get u.memory n ≡ slice_get t.world.memory n
  same_blocks u spares n none = spares.same n (λ slot listed of same. none (slot, listed, of, same))

  left_by : (u : World) → SparesBlocks x t.top t.world.memory u.memory → LeavesRest b s t r s.world u
  left_by u spares =
      rest_left b s t r s.world u Touched given.framings refl (same_blocks u spares) stood others_apart

  -- ---- what is shown

  pub shown_there : (u : World) (c : Activation) → u.events ≡ t.world.events
      → SparesBlocks x t.top t.world.memory u.memory → IsOn b s (record t { world = u; top = c })
  shown_there u c events spares = record {
    running = r.outcome ∙ h.runs;
    shown = record {
      homes = r.homes;
      events = events ∙ events_same b s t r;
      outcome = r.outcome;
      instances = λ j p there suspended.
          let y = other_instance b s t r j p there in (
            y.0,
            y.1,
            instance_kept b s t r s.world u (left_by u spares) c t.below j p y.0 there y.2,
          );
    };
  }

  -- ---- the activation on top

  abbrev pub z : Work
  z = led.work

  left : LeavesRest b s t r s.world z.world
  left = left_by z.world led.last.spares

  abbrev pub env : Env
  env = with_all s.top.values (entered_phis g s x label)

  abbrev pub a' : Activation
  a' = record s.top { block = k; at = 0; values = env }

  abbrev pub c' : Activation
  c' = record t.top { block = k; at = length front; values = z.values }

  abbrev t' : State
  t' = record t { world = z.world; top = c' }

  abbrev bound : ℕ
  bound = length (edged x).names

  all : AreAllSet r.homes bound s.top.values ends.work.values env
      (entered_work b t x s.top.block label ends.work).values
  all = all_before b g given s t r e other label line h ends

  same_values : (u : ℕ) → value_in z.values u ≡ value_in (entered_work b t x s.top.block label ends.work).values u
  same_values u = ap (λ (v : Env). value_in v u) led.values

  names : AreNamed x r.homes a' c'
  names = record {
    each = λ u asks unkept outside. by_name u unkept outside (cases_lt u (length (named x).names));
    room = ap (λ (v : Env). length v) led.values ∙ all.target ∙ ends.room
        ∙ (old_names b g given s t r e other label line h ends).room;
  }
    where
      by_name : (u : ℕ) → entry (plan x).places u ≡ None → lies_in_frame (offsets x) u ≡ false
          → (u < length (named x).names) ⊎ (length (named x).names ≤ u)
          → IsValue r.homes (value_in env u) (value_in z.values u)
      by_name u unkept outside (inl lt) =
          subst (IsValue r.homes (value_in env u)) (sym (same_values u))
          (all.each u
          (subst (IsValue r.homes (value_in s.top.values u)) (sym (ends.low u lt))
          ((old_names b g given s t r e other label line h ends).each u
          (asked x s.top s.top.mode u h.mode) unkept outside)))
      by_name u unkept outside (inr le) =
          subst (λ (v : Value). IsValue r.homes v (value_in z.values u))
          (sym (past_value env u
          (let p = all.source in let q = h.room in let f : bound ≤ length (named x).names =
          far b g given s t r e other label line h ends in omega (arith, p, q, f, le)))) tt

  right : AreCellsRight x r.homes R z.world.memory env c'
  right = cells_turned R z.world.memory (at_work t.top z) c' x r.homes env refl refl led.right

  -- the cells of addresses are as they were
  wheres_here : AreWheresRight x R z.world.memory (instance_in t.instances t.top.instance) t.top
  wheres_here = record {
    each = λ w listed.
        let q = cells.1.each w listed in record {
          block = q.block;
          address = q.address;
          own = q.own;
          bytes = q.bytes;
          sized = q.sized;
          holds = kept b s t r s.world z.world Touched given.framings refl (same_blocks z.world led.last.spares) stood
              others_apart q.block
              (λ p. other_block t.top p.0.alloca w.cell p.0.block q.block (own_blocks t r.once) p.1 q.own
              (λ same. apart w listed p.0.alloca p.2 same) p.3)
              0 (value_bytes ptr) q.bytes q.holds;
          has = q.has;
        };
  }
    where
      apart : (w : EarlySlot) → Contains (copies x).slots w → (u : ℕ) → IsCellOf x u → u ≡ w.cell → ⊥
      apart w listed u of same =
          let lt : u < length (named x).names = of.1 in
          let high : length (written x).names ≤ w.cell = (slots_new x w listed).1 in
          let long : length (named x).names ≤ length (written x).names = named_written x in
          omega (arith, lt, high, long, same)

  high_value : (u : ℕ) → length (written x).names ≤ u → value_in ends.work.values u ≡ value_in t.top.values u
      → value_in z.values u ≡ value_in t.top.values u
  high_value u le same =
      same_values u
      ∙ all.high u (let f : bound ≤ length
      (named x).names = far b g given s t r e other label line h ends in let long : length
      (named x).names ≤ length (written x).names = named_written x in
      omega (arith, f, long, le)) ∙ same

  wheres : AreWheresRight x R z.world.memory (instance_in t.instances t.top.instance) c'
  wheres =
      wheres_turned R z.world.memory t.top c' x (instance_in t.instances t.top.instance) refl
      (λ w listed. (
        high_value w.cell (slots_new x w listed).1 (ends.wheres w listed).0,
        high_value w.temporary (slots_new x w listed).0 (ends.wheres w listed).1,
      )) wheres_here

  after : AreCoroutines x r.homes R t' a' c'
  after = record {
    names = names;
    cells = subst
        (λ (o : Option ℕ). HasCells x r.homes R z.world.memory (instance_in t.instances t.top.instance) a' c' o)
        (sym (not_returned x a' s.top.mode h.mode h.ordinary)) (right, wheres);
    made = made_of x R z.world.memory c' s.top.mode h.mode (
      right_there x is r.homes R z.world.memory env c' right,
      wheres_there x R z.world.memory c' (instance_in t.instances t.top.instance) wheres,
    );
  }

  place_there : point_of c' ≡ top_place b a'
  place_there =
      ap (λ (n : ℕ). record { block = k; at = n }) (sym fronts.place) ∙ sym (top_is b a' h.coroutine h.mode)

  top_there : AreActivations b r.homes r.hides t' (top_place b) a' c'
  top_there = record {
    func = r.top.func;
    place = place_there;
    result = r.top.result;
    mode = r.top.mode;
    instance = r.top.instance;
    has_left = r.top.has_left;
    values = values_of b r.homes R t' a' c' (is_coroutine b s.top.func) h.coroutine after;
    slots = own_slots b s t r s.world z.world left k 0 k (length front) env z.values;
  }

  pub landed : AreBuiltOf b (record s { top = a' }) t'
  landed =
      rest_related b s t r s.world z.world left k 0 k (length front) env z.values led.over
      (λ first is zero. absurd (h.later zero)) top_there
