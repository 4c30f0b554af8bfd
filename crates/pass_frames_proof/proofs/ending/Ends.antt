-- coro.end is followed: a resumed activation leads back to its resumer, and a ramp goes on behind it.
use Rattle.pass_frames_steps.specs.run_step.Values.{truth_value, with_result}
use Rattle.pass_frames_proof.proofs.returning.Results.{result_given}
use Rattle.std.proofs.Common.{◌≡◌, ◌⊎◌, inl, inr, ⊎_elim, ℕ, suc, ◌+◌, ◌-◌, ◌<◌, ◌≤◌, Bool, true, false, List, [], ◌∷◌, length, refl, sym, ap, ◌∙◌, subst, arith}
use Rattle.std.specs.Option.{option_map_or}
use Rattle.std.specs.Prelude.{None, Ok, Option, Some, slice_get, slice_set, option_and_then, option_map, ◌&&◌, ◌==◌, if◌then◌else◌}
use Rattle.pass_frames_steps.specs.flow_solver.Paths.{IsListed}
use Rattle.pass_frames_steps.proofs.ir_laws.facts.Truth.{is_number}
use Rattle.pass_frames_proof.proofs.returning.Deaths.{WasThere, dead_there, is_among, kept_there, was_there}
use Rattle.pass_frames_steps.specs.run_memory.Memory.{is_killed, killed_block}
use Rattle.pass_frames_steps.specs.ir_base.declared.outcome.Outcome.{Outcome}
use Rattle.pass_frames_steps.specs.ir_model.Ty.{Ty}
use Rattle.pass_frames_steps.specs.ir_model.declared.instr.Instr.{Instr}
use Rattle.pass_frames_steps.specs.ir_model.declared.module.Function.{Function}
use Rattle.pass_frames_steps.specs.ir_model.declared.operand.Arg.{Arg}
use Rattle.pass_frames_steps.specs.ir_model.declared.operand.Intrinsic.{Intrinsic}
use Rattle.pass_frames_steps.specs.ir_paths.declared.point.Point.{Point}
use Rattle.pass_frames_steps.specs.pass_cells.Cells.{fetches_of}
use Rattle.pass_frames_steps.specs.pass_fetch.Fetching.{fetched_args}
use Rattle.pass_frames_proof.proofs.ending.Finishing.{finished, over_now}
use Rattle.pass_frames_steps.proofs.followed.Assembly.{other_instance}
use Rattle.pass_frames_steps.proofs.lined.Lines.{framed_does}
use Rattle.pass_frames_proof.proofs.returning.Back.{GoesBack, goes_back, on_top}
use Rattle.pass_frames_proof.proofs.returning.Behind.{CallStands, call_stands}
use Rattle.pass_frames_proof.proofs.returning.Owned.{slots_owned}
use Rattle.pass_frames_steps.proofs.stepping.Doing.{at_place, code_framed, fetched_is}
use Rattle.pass_frames_steps.proofs.stepping.Fronted as fronted
use Rattle.pass_frames_steps.proofs.stepping.Landing.{landed}
use Rattle.pass_frames_steps.proofs.stepping.Onward.{EndsUp, onward_within}
use Rattle.pass_frames_steps.proofs.pass_renewed_proof.Listing.{set_here, set_other}
use Rattle.pass_frames_steps.proofs.stepping.Stands.{cost_is, renewed_does}
use Rattle.pass_frames_steps.specs.Code.{address_state, load_name, slot_table}
use Rattle.pass_frames_steps.specs.Ending.{GoesOnPast, IsAtEnd, LeadsBack, end_call}
use Rattle.pass_frames_steps.specs.Followed.{IsFollowed, IsOn}
use Rattle.pass_frames_steps.specs.Framings.{IsFraming}
use Rattle.pass_frames_steps.specs.Lined.{lined}
use Rattle.pass_frames_steps.specs.Meaning.{action_at, behind_cost, coroutine_cost, other_cost, step_cost, behind_at}
use Rattle.pass_frames_steps.specs.Places.{Framing, Placed, framed, own_place, place, plan}
use Rattle.pass_frames_steps.specs.Related.{AreBuiltOf, AreInstances, Building, point_of, below_place, behind_place, is_first, top_place}
use Rattle.pass_frames_steps.specs.Returning.{HasOwnSlots, HasSlotKinds, HasSlotsListed, IsAmong, is_own_kind, IsGivenBehind, behind_state}
use Rattle.pass_frames_steps.specs.Stepping.{AreGiven, placed_front, state_in}
use Rattle.pass_frames_steps.specs.pass_renewed_proof.Renewed.{RenewedGiven, renewed_step}
use Rattle.pass_frames_steps.specs.run_agreement.Machines.{iterate}
use Rattle.pass_frames_steps.specs.run_framed.Framed.{disown_given, framed_context, framed_finish, framed_step, is_stack_block}
use Rattle.pass_frames_steps.specs.run_memory.Memory.{disown, same_kind}
use Rattle.pass_frames_steps.specs.run_memory.declared.block.Kind.{Kind}
use Rattle.pass_frames_steps.specs.run_memory.declared.block.MemoryBlock.{MemoryBlock}
use Rattle.pass_frames_steps.specs.run_source.Source.{after_end, change_own, context_of, end_of, finish, slots_of}
use Rattle.pass_frames_steps.specs.run_source.State.{function_of, numbered, or_undefined, own_instance, with_memory, work_of, gives}
use Rattle.pass_frames_steps.specs.run_source.declared.state.Activation.{Activation}
use Rattle.pass_frames_steps.specs.run_source.declared.state.Instance.{Instance}
use Rattle.pass_frames_steps.specs.run_source.declared.state.Mode.{Mode}
use Rattle.pass_frames_steps.specs.run_source.declared.state.State.{State}
use Rattle.pass_frames_steps.specs.run_source.declared.state.Status.{Status}
use Rattle.pass_frames_steps.specs.run_step.Step.{AtInstr, Context, Coro, Work, action_of, fetch, without_slots}
use Rattle.pass_frames_steps.specs.run_step.declared.world.Slot.{Slot}
use Rattle.pass_frames_steps.specs.run_step.declared.world.World.{World}

-- ---- what finishing is

-- the own instance
own_is : (s : State) (i : ℕ) (x : Instance) → s.top.instance ≡ Some i → slice_get s.instances i ≡ Some x
    → own_instance s ≡ Some (i, x)
own_is s i x own there =
    ap (λ (o : Option ℕ). option_and_then (λ (k : ℕ). numbered s.instances k) o) own
    ∙ ap (λ (o : Option Instance). option_map (λ (y : Instance). (i, y)) o) there

finish_is : (s : State) (i : ℕ) (x : Instance) → own_instance s ≡ Some (i, x)
    → finish s ≡ record s {
      world = record s.world { memory = without_slots s.world.memory x.slots };
      instances = slice_set s.instances i (over_now x);
    }
finish_is s i x e =
    ap (λ (o : Option (ℕ × Instance)).
    with_memory (change_own s (λ (y : Instance). record y { status = Status.Finished }) o)
    (without_slots s.world.memory (slots_of o))) e

framed_finish_is : (s : State) (i : ℕ) (x : Instance) → own_instance s ≡ Some (i, x) → x.slots ≡ []
    → is_stack_block s.world.memory x.block ≡ false
    → framed_finish s ≡ record s { instances = slice_set s.instances i (over_now x) }
framed_finish_is s i x e none no_stack =
    ap (λ (o : Option (ℕ × Instance)). disown_given (finish s) o) e
    ∙ ap (λ (q : State). disown_given q (Some (i, x)))
    (finish_is s i x e
    ∙ ap (λ (ss : List Slot). record s {
      world = record s.world { memory = without_slots s.world.memory ss };
      instances = slice_set s.instances i (over_now x);
    }) none)
    ∙ ap (λ (k : Bool). if k && (x.start == 0)
    then with_memory (record s { instances = slice_set s.instances i (over_now x) }) (disown s.world.memory x.block)
    else record s { instances = slice_set s.instances i (over_now x) }) no_stack

-- a ramp goes on behind it
ramp_gives : (o : Option ℕ) (s : State) → is_first s.top.mode ≡ true
    → after_end s o s.top.mode ≡ Ok (gives s o (truth_value false))
ramp_gives o s first = on s.top.mode first
  where
    on : (m : Mode) → is_first m ≡ true → after_end s o m ≡ Ok (gives s o (truth_value false))
    on Mode.Resumed e = absurd (cc)
    on _ e = refl

-- ---- the step

module _ (b : Building) (g : RenewedGiven) (given : AreGiven b g) (s t : State) (r : AreBuiltOf b s t)
    (result : Option ℕ) (must_tail : Bool) (ty : Option Ty) (args : List Arg)
    (h : IsAtEnd b g s result must_tail ty args) where
  abbrev x : Framing
  x = b.framing s.top.func

  abbrev i : Instr
  i = end_call result must_tail ty args

  abbrev st : Placed
  st = state_in x s.top.block s.top.at

  abbrev k : ℕ
  k = s.top.block

  abbrev c : Context
  c = context_of g.given s

  abbrev d : Context
  d = framed_context b.given t

  abbrev front : List Instr
  front = placed_front x st i

  abbrev now : List Arg
  now = fetched_args (slot_table x) (address_state st).0 (fetched_args (fetches_of (plan x)) (load_name st) args)

  is : IsFraming x
  is = given.framings s.top.func h.at.coroutine

  running : t.outcome ≡ Outcome.Running
  running = r.outcome ∙ h.runs

  code : CallStands x k s.top.at i
  code = call_stands x is k s.top.at i h.at.there h.at.unreturned tt h.unlocated

  abbrev work : Work
  work = fronted.work b g given s t r i h.at h.allocas

  abbrev state : State
  state = fronted.fetched_state b g given s t r i h.at h.allocas

  abbrev last : State
  last = lined t (length front) work

  abbrev here : Point
  here = record { block = k; at = s.top.at }

  own_at : ◌≡◌ {A = Point} (record { block = t.top.block; at = t.top.at + length front }) (own_place x here)
  own_at =
      ap (λ (p : Point). record { block = p.block; at = p.at + length front }) (at_place b g given s t r i h.at)
      ∙ ap (λ (n : ℕ). record { block = k; at = n }) (sym code.own)

  at_call : fetch (function_of b.given.given t) t.top.block (t.top.at + length front)
      ≡ AtInstr (end_call result must_tail ty now)
  at_call =
      ap (λ (f : Function). fetch f t.top.block (t.top.at + length front)) (code_framed b g given s t r i h.at)
      ∙ ap (λ (p : Point). fetch (framed x) p.block p.at) own_at ∙ code.there

  source_to : renewed_step g s ≡ or_undefined g.given s (end_of s finish result)
  source_to =
      renewed_does g s (AtInstr i) (Coro Intrinsic.CoroEnd args result) h.runs (fetched_is b g given s t r i h.at) refl
      refl

  target_to : framed_step b.given last ≡ or_undefined b.given.given last (end_of last framed_finish result)
  target_to =
      framed_does b.given last (AtInstr (end_call result must_tail ty now)) (Coro Intrinsic.CoroEnd now result) running
      at_call refl refl

  -- ---- the instance is over, where the activation hasn't left

  abbrev dead : World
  dead = record s.world { memory = without_slots s.world.memory h.instance.slots }

  still_there : (n : ℕ) → (z : MemoryBlock) × (slice_get s.world.memory n ≡ Some z) × (is_own_kind z ≡ false)
      → (z : MemoryBlock) × (slice_get dead.memory n ≡ Some z) × (is_own_kind z ≡ false)
  still_there n z = ⊎_elim
      (λ l. (killed_block z.0, dead_there h.instance.slots s.world.memory n z.0 l z.1, z.2))
      (λ none. (z.0, kept_there h.instance.slots s.world.memory n none ∙ z.1, z.2))
      (is_among n h.instance.slots)

  abbrev xs : List Instance
  xs = slice_set s.instances h.number (over_now h.instance)

  -- what each run has of slots
  still_listed : HasSlotsListed s
      → HasSlotsListed (record s {
        world = dead;
        instances = slice_set s.instances h.number (over_now h.instance);
      })
  still_listed q = record {
    listed = λ n z e unkilled kind. listed_there n z (was_there h.instance.slots s.world.memory n z e) unkilled kind;
    frames = λ j p e. frame_there j p e (is_number j h.number);
  }
    where
      -- the instance that is over has the slots that it had
      instance_there : (n j : ℕ) (p : Instance) → slice_get s.instances j ≡ Some p → IsAmong n p.slots
          → (j ≡ h.number) ⊎ (j ≡ h.number → ⊥)
          → (m : ℕ) × (o : Instance) × (slice_get xs m ≡ Some o) × IsAmong n o.slots
      instance_there n j p e among (inl same) =
          let both : Some p ≡ Some h.instance = sym e ∙ ap (slice_get s.instances) same ∙ h.there in
          let one : p ≡ h.instance = cc in (
            h.number,
            over_now h.instance,
            set_here s.instances h.number h.instance (over_now h.instance) h.there,
            subst (λ (o : Instance). IsAmong n o.slots) one among,
          )
      instance_there n j p e among (inr differ) =
          (j, p, set_other s.instances h.number j (over_now h.instance) differ ∙ e, among)

      listed_there : (n : ℕ) (z : MemoryBlock) → WasThere h.instance.slots s.world.memory n z
          → is_killed z.life ≡ false → is_own_kind z ≡ true
          → ((a : Activation) × IsListed a (s.top ∷ s.below) × IsAmong n a.slots)
          ⊎ ((j : ℕ) × (p : Instance) × (slice_get xs j ≡ Some p) × IsAmong n p.slots)
      listed_there n z k unkilled kind = on k.is
        where
          on : (IsAmong n h.instance.slots × (z ≡ killed_block k.block))
              ⊎ ((IsAmong n h.instance.slots → ⊥) × (z ≡ k.block))
              → ((a : Activation) × IsListed a (s.top ∷ s.below) × IsAmong n a.slots)
              ⊎ ((j : ℕ) × (p : Instance) × (slice_get xs j ≡ Some p) × IsAmong n p.slots)
          on (inl d) =
              let no : true ≡ false = sym (ap (λ (q : MemoryBlock). is_killed q.life) d.1) ∙ unkilled in absurd (cc)
          on (inr d) =
              ⊎_elim (λ a. inl a) (λ p. inr (instance_there n p.0 p.1 p.2 p.3 (is_number p.0 h.number)))
              (q.listed n k.block k.there (ap (λ (o : MemoryBlock). is_killed o.life) (sym d.1) ∙ unkilled)
              (ap is_own_kind (sym d.1) ∙ kind))

      frame_there : (j : ℕ) (p : Instance) → slice_get xs j ≡ Some p → (j ≡ h.number) ⊎ (j ≡ h.number → ⊥)
          → (z : MemoryBlock) × (slice_get dead.memory p.block ≡ Some z) × (is_own_kind z ≡ false)
      frame_there j p e (inl same) =
          let both : Some (over_now h.instance) ≡ Some p =
          sym (set_here s.instances h.number h.instance (over_now h.instance) h.there)
          ∙ ap (slice_get xs) (sym same) ∙ e in
          let one : over_now h.instance ≡ p = cc in
          subst (λ (o : ℕ). (z : MemoryBlock) × (slice_get dead.memory o ≡ Some z) × (is_own_kind z ≡ false))
          (ap (λ (o : Instance). o.block) one) (still_there h.instance.block (q.frames h.number h.instance h.there))
      frame_there j p e (inr differ) =
          still_there p.block
          (q.frames j p (sym (set_other s.instances h.number j (over_now h.instance) differ) ∙ e))

  still_kinds : HasSlotKinds s
      → HasSlotKinds (record s {
        world = dead;
        instances = slice_set s.instances h.number (over_now h.instance);
      })
  still_kinds q = record {
    each = λ slot e.
        let z = q.each slot e in
        ⊎_elim
        (λ l. (killed_block z.0, dead_there h.instance.slots s.world.memory slot.block z.0 l z.1, z.2))
        (λ none. (z.0, kept_there h.instance.slots s.world.memory slot.block none ∙ z.1, z.2))
        (is_among slot.block h.instance.slots);
  }

  -- both states as they are then, wherever they stand now
  record IsEnded (on_s on_t : State) : Type 0 where
    world : World
    xs : List Instance
    ys : List Instance
    related : AreBuiltOf b (record on_s { world = world; instances = xs }) (record on_t { instances = ys })
    source : (if s.top.has_left then s else finish s) ≡ record s { world = world; instances = xs }
    target : (if last.top.has_left then last else framed_finish last) ≡ record last { instances = ys }
    listed : HasSlotsListed s → HasSlotsListed (record s { world = world; instances = xs })
    kinds : HasSlotKinds s → HasSlotKinds (record s { world = world; instances = xs })

  module _ (sa tb ta : ℕ) (later : s.top.at ≤ sa)
      (stands : ◌≡◌ {A = Point} (record { block = tb; at = ta }) (top_place b (record s.top { at = sa }))) where
    abbrev on_s : State
    on_s = record s { top = record s.top { at = sa } }

    abbrev on_t : State
    on_t = record state { top = record state.top { block = tb; at = ta } }

    rs : AreBuiltOf b on_s on_t
    rs =
        landed b s t r given.framings h.at.coroutine h.at.mode h.at.unreturned s.world s.top.values work
        (fronted.leaves b g given s t r i h.at h.allocas) k sa tb ta h.at.unreturned (λ zero. (zero, later)) stands

    -- the own instance in both
    beside : (y : Instance) × (slice_get t.instances h.number ≡ Some y) × AreInstances b rs.homes on_t h.instance y
    beside = other_instance b on_s on_t rs h.number h.instance h.there

    abbrev y : Instance
    y = beside.0

    no_stack_there : is_stack_block work.world.memory y.block ≡ false
    no_stack_there =
        let mate = rs.mates.each h.instance.block y.block h.frame h.frame_there beside.2.block in
        ap (λ (o : Option MemoryBlock). option_map_or (λ (q : MemoryBlock). same_kind q.kind Kind.Stack) o false) mate.1
        ∙ h.no_stack

    own_last : own_instance last ≡ Some (h.number, y)
    own_last = own_is last h.number y (r.top.instance ∙ h.own) beside.1

    ended : IsEnded on_s on_t
    ended = on s.top.has_left refl
      where
        on : (q : Bool) → s.top.has_left ≡ q → IsEnded on_s on_t
        on true e = record {
          world = s.world;
          xs = s.instances;
          ys = t.instances;
          related = rs;
          source = ap (λ (q : Bool). if q then s else finish s) e;
          target = ap (λ (q : Bool). if q then last else framed_finish last) (r.top.has_left ∙ e);
          listed = λ q. q;
          kinds = λ q. q;
        }
        on false e = record {
          world = dead;
          xs = slice_set s.instances h.number (over_now h.instance);
          ys = slice_set t.instances h.number (over_now y);
          related =
              finished b on_s on_t rs given.framings h.number h.instance y h.there beside.1 beside.2 h.apart;
          source = ap (λ (q : Bool). if q then s else finish s) e
              ∙ finish_is s h.number h.instance (own_is s h.number h.instance h.own h.there);
          target = ap (λ (q : Bool). if q then last else framed_finish last) (r.top.has_left ∙ e)
              ∙ framed_finish_is last h.number y own_last beside.2.no_slots no_stack_there;
          listed = still_listed;
          kinds = still_kinds;
        }

  line_shown : (j : ℕ) → j < length front → IsOn b s (iterate (framed_step b.given) j t)
  line_shown = fronted.fetches_shown b g given s t r i h.at h.allocas running code.front

  last_on : IsOn b s last
  last_on = fronted.last_shown b g given s t r i h.at h.allocas running code.front

  leads : iterate (framed_step b.given) (length front) t ≡ last
  leads = fronted.fetches_lead b g given s t r i h.at h.allocas running code.front

  cost_all : step_cost b g s s.top.mode ≡ (place x (record { block = k; at = s.top.at + 1 })).at - (place x here).at
      + behind_cost b s.below
  cost_all =
      cost_is b g s s.top.mode h.at.mode
      ∙ ap (λ (q : Bool). if q then coroutine_cost b g s (action_at g s) else other_cost b g s (action_at g s))
      h.at.coroutine
      ∙ ap (coroutine_cost b g s) (ap (action_of c (work_of s)) (fetched_is b g given s t r i h.at))

  -- ---- of a resumed activation

  module _ (a : Activation) (more : List Activation) (q : LeadsBack b s t a more) where
    same : s.top.at ≤ s.top.at
    same = omega arith

    over : IsEnded s state
    over = ended s.top.at t.top.block t.top.at same r.top.place

    abbrev s1 : State
    s1 = record s { world = over.world; instances = over.xs }

    abbrev t1 : State
    t1 = record state { instances = over.ys }

    back : GoesBack b s1 t1 None None
    back =
        goes_back b g given s1 t1 over.related running
        (slots_owned b s1 t1 over.related (over.listed q.listed) (over.kinds q.kinds) own_there) a more q.below
        None None tt q.goes
      where
        own_there : HasOwnSlots t1
        own_there = record {
          each = λ slot e.
              let z = q.own_target.each slot e in (
                z.0,
                ap (λ (p : World). slice_get p.memory slot.block)
                    (fronted.same_world b g given s t r i h.at h.allocas) ∙ z.1,
                z.2,
                z.3,
              );
        }

    source : renewed_step g s ≡ back.ends.source
    source =
        source_to
        ∙ ap (λ (p : State). or_undefined g.given s (after_end p result s.top.mode)) over.source
        ∙ ap (λ (m : Mode). or_undefined g.given s (after_end s1 result m)) q.resumed
        ∙ ap (or_undefined g.given s) back.source_is

    next : framed_step b.given last ≡ back.ends.target
    next =
        target_to
        ∙ ap (λ (p : State). or_undefined b.given.given last (after_end p result last.top.mode)) over.target
        ∙ ap (λ (m : Mode). or_undefined b.given.given last (after_end (record last { instances = over.ys }) result m))
        (r.top.mode ∙ q.resumed)
        ∙ ap (or_undefined b.given.given last)
        (back.target_is (t.top.at + length front) work.values work.world refl)

    -- what its result would be stored by is paid for too
    paid : length front + 1 + back.ends.steps ≤ step_cost b g s s.top.mode
    paid =
        let one = cost_all in
        let two = back.cost in
        let own = code.own in
        let after = code.next in
        omega (arith, one, two, own, after)

    pub resumed_end_followed : IsFollowed b g s t
    resumed_end_followed =
        onward_within b g s t back.ends (length front) last leads line_shown last_on next source paid

  -- ---- of a ramp

  module _ (q : GoesOnPast b s result) where
    abbrev on : Activation
    on = record s.top { at = s.top.at + 1 }

    later : s.top.at ≤ s.top.at + 1
    later = omega arith

    abbrev p1 : Point
    p1 = top_place b on

    past : IsEnded (record s { top = on }) (record state { top = record state.top { block = p1.block; at = p1.at } })
    past = ended (s.top.at + 1) p1.block p1.at later refl

    abbrev s2 : State
    s2 = record s { world = past.world; instances = past.xs; top = on }

    abbrev t2 : State
    t2 = record state {
      instances = past.ys;
      top = record state.top { block = p1.block; at = p1.at };
    }

    behind : IsGivenBehind b s2 t2 result (truth_value false) (truth_value false)
    behind = result_given b g given s2 t2 past.related running result (truth_value false) (truth_value false) refl q.goes

    place_is : ◌≡◌ {A = Point} (record { block = t.top.block; at = t.top.at + length front + 1 }) (below_place b on)
    place_is =
        ap (λ (p : Point). record { block = p.block; at = p.at + 1 }) own_at
        ∙ sym (ap (λ (z : Bool). if z then record { block = k; at = behind_place x k (s.top.at + 1) } else point_of on)
        h.at.coroutine ∙ ap (λ (n : ℕ). record { block = k; at = behind_place x k n }) (next s.top.at))
      where
        next : (n : ℕ) → n + 1 ≡ suc n
        next n = omega arith

    past_source : renewed_step g s ≡ record s2 {
      top = record on { values = with_result s.top.values result (truth_value false) };
    }
    past_source =
        source_to
        ∙ ap (λ (p : State). or_undefined g.given s (after_end p result s.top.mode)) past.source
        ∙ ap (or_undefined g.given s) (ramp_gives result (record s { world = past.world; instances = past.xs }) q.first)

    past_target : framed_step b.given last ≡ behind_state b s2 t2 result (truth_value false)
    past_target =
        target_to
        ∙ ap (λ (p : State). or_undefined b.given.given last (after_end p result last.top.mode)) past.target
        ∙ ap (or_undefined b.given.given last) (ramp_gives result (record last { instances = past.ys }) (
        ap is_first r.top.mode ∙ q.first))
        ∙ ap (λ (p : Point). record last {
          instances = past.ys;
          top = record last.top {
            block = p.block;
            at = p.at;
            values = with_result work.values result (truth_value false);
          };
        }) place_is

    past_ends : EndsUp b
    past_ends = record {
      source = record s2 { top = record on { values = with_result s.top.values result (truth_value false) } };
      target = behind_state b s2 t2 result (truth_value false);
      steps = behind.steps;
      shown = λ j lt.
          on_top b s2 (iterate (framed_step b.given) j (behind_state b s2 t2 result (truth_value false)))
          (record on { values = with_result s.top.values result (truth_value false) }) (behind.shown j lt);
      related = behind.related;
    }

    -- what stands behind it is paid for in its own block
    within : length front + 1 + behind.steps ≤ step_cost b g s s.top.mode
    within =
        let one = cost_all in
        let two = behind.cost s.below in
        let three : behind_cost b (on ∷ s.below)
        ≡ (place x (record { block = k; at = s.top.at + 1 })).at - ((own_place x (record { block = k; at = s.top.at })).at + 1)
        = ap (λ (z : Bool). if z then behind_at x k (s.top.at + 1) else 0) h.at.coroutine
        ∙ ap (λ (n : ℕ). (place x (record { block = k; at = s.top.at + 1 })).at
        - ((own_place x (record { block = k; at = n })).at + 1)) (back s.top.at) in
        let own = code.own in
        let after = code.next in
        omega (arith, one, two, three, own, after)
      where
        back : (n : ℕ) → n + 1 - 1 ≡ n
        back n = omega arith

    pub ramp_end_followed : IsFollowed b g s t
    unfolding past_ends
    ramp_end_followed =
        onward_within b g s t past_ends (length front) last leads line_shown last_on past_target past_source within
