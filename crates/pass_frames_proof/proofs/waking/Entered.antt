-- A woken coroutine that makes no slot anew comes to the block on the edge, and the framed run makes all allocas.
use Rattle.std.proofs.Common.{◌≡◌, ◌+◌, ◌-◌, ◌<◌, ◌≤◌, ◌^◌, ◌%◌, ◌==◌, ◌∷◌, ◌++◌, ◌∙◌, [], if◌then◌else◌, Bool, List, None, Option, Some, ap, arith, inl, inr, length, length-append, refl, replicate, subst, suc, sym, take, zero, ℕ, ⊎_elim}
use Rattle.std.proofs.lemmas.List.{length-replicate}
use Rattle.std.specs.List.{Contains}
use Rattle.std.specs.Prelude.{option_map, slice_get, slice_set}
use Rattle.pass_frames_steps.proofs.ir_laws.facts.Lists.{get_within, set_here, set_length}
use Rattle.pass_frames_steps.specs.ir_model.Layout.{size_of}
use Rattle.pass_frames_steps.specs.ir_model.Names.{function_at, position_of}
use Rattle.pass_frames_steps.specs.ir_model.Ty.{Ty, int, ptr}
use Rattle.pass_frames_steps.specs.ir_model.declared.instr.Instr.{Instr}
use Rattle.pass_frames_steps.specs.ir_model.declared.module.Function.{Function}
use Rattle.pass_frames_steps.specs.ir_model.declared.module.Module.{Module}
use Rattle.pass_frames_steps.specs.ir_paths.declared.point.Point.{Point}
use Rattle.pass_frames_steps.specs.pass_cells.Kept.{entry}
use Rattle.pass_frames_steps.specs.pass_cells.declared.plan.KeptValue.{KeptValue}
use Rattle.pass_frames_steps.specs.pass_fetch.Fetching.{value_bytes}
use Rattle.pass_frames_steps.specs.pass_frames.Framed.{begin_of}
use Rattle.pass_frames_steps.proofs.distances.Sums.{value_set}
use Rattle.pass_frames_proof.proofs.entering.Allocas.{alloca_there, to_the_last, up_to_next}
use Rattle.pass_frames_proof.proofs.entering.Behind.{AreBehind, are_behind}
use Rattle.pass_frames_proof.proofs.entering.Edge.{edge_is, edge_too, no_phis, no_phis_too}
use Rattle.pass_frames_proof.proofs.entering.Into.{enters, last_behind}
use Rattle.pass_frames_proof.proofs.entering.Stand.{all_counted, entry_stands, none_left}
use Rattle.pass_frames_steps.proofs.followed.Assembly.{events_same}
use Rattle.pass_frames_proof.proofs.ramps.Plain.{entry_there}
use Rattle.pass_frames_steps.proofs.moved.Rest.{activation_on, ahead_on, below_on, free_on}
use Rattle.pass_frames_steps.proofs.saving.Sets.{set_instances, set_places}
use Rattle.pass_frames_steps.proofs.stepping.Rest.{got}
use Rattle.pass_frames_steps.proofs.stepping.Stands.{top_is, values_of}
use Rattle.pass_frames_proof.proofs.waking.Grown.{free_new, instance_grown, mates_grown, moves_grown, over_grown, right_grown, seen_there}
use Rattle.pass_frames_proof.proofs.waking.Restated.{activation_same, below_same, instance_same}
use Rattle.pass_frames_steps.specs.Entering.{IsGoodAlloca, IsMaking, behind_allocas, front_allocas, made_blocks}
use Rattle.pass_frames_steps.specs.Followed.{IsFollowed, IsOn}
use Rattle.pass_frames_steps.specs.Framings.{IsFraming}
use Rattle.pass_frames_steps.specs.Meaning.{step_cost}
use Rattle.pass_frames_steps.specs.Moved.{IsSamePlace}
use Rattle.pass_frames_steps.specs.Passes.{block_at}
use Rattle.pass_frames_steps.specs.Places.{Framing, edged, framed, own_place, plan}
use Rattle.pass_frames_steps.specs.Related.{Anything, AreActivations, AreAllAhead, AreBuiltOf, AreCellsThere, AreFieldsRight, AreInstances, AreNamed, AreWheresThere, Building, HasCells, IsCell, IsFreeOf, IsKeptAs, IsKeptValue, IsStatus, below_place, instance_in, is_coroutine, returned_from, slots_below, top_place}
use Rattle.pass_frames_steps.specs.Stepping.{AreGiven}
use Rattle.pass_frames_steps.specs.Waking.{AreWoken, HasNoneAnew, IsCellMade, IsSleeping, framed_start}
use Rattle.pass_frames_steps.specs.pass_kept_proof.Kept.{kept}
use Rattle.pass_frames_steps.specs.pass_renewed_proof.Renewed.{RenewedGiven, renew_after, renewed_step, renewed_value, renewed_values}
use Rattle.pass_frames_steps.proofs.run_access_worked.Ended.{set_frames}
use Rattle.pass_frames_steps.specs.run_access_worked.Frames.{IsSameFrame}
use Rattle.pass_frames_steps.specs.run_agreement.Machines.{iterate}
use Rattle.pass_frames_steps.specs.run_framed.Framed.{alloca_from, begin_name, enter_after, frame_rights, framed_step, reentry_values}
use Rattle.pass_frames_steps.specs.run_laws.access.Lines.{Holds, StandAt}
use Rattle.pass_frames_steps.specs.run_laws.changed.Changed.{Each}
use Rattle.pass_frames_steps.specs.run_laws.memory.Pointers.{Home, IsValue, home_of}
use Rattle.pass_frames_steps.specs.run_memory.Memory.{Rights, decode}
use Rattle.pass_frames_steps.specs.run_memory.Pointers.{moved, offset_of}
use Rattle.pass_frames_steps.specs.run_memory.declared.block.MemoryBlock.{MemoryBlock}
use Rattle.pass_frames_steps.specs.run_memory.declared.pointer.Pointer.{Pointer}
use Rattle.pass_frames_steps.specs.run_memory.declared.pointer.Value.{Value}
use Rattle.pass_frames_steps.specs.run_source.Source.{enter_block, push, resumed}
use Rattle.pass_frames_steps.specs.run_source.State.{address_in, frame_address_of, function_of, with_status}
use Rattle.pass_frames_steps.specs.run_source.declared.state.Activation.{Activation}
use Rattle.pass_frames_steps.specs.run_source.declared.state.Instance.{Instance}
use Rattle.pass_frames_steps.specs.run_source.declared.state.Mode.{Mode}
use Rattle.pass_frames_steps.specs.run_source.declared.state.State.{State}
use Rattle.pass_frames_steps.specs.run_source.declared.state.Status.{Status}
use Rattle.pass_frames_steps.specs.run_step.Step.{AtInstr, fetch, has_markers, label_of, values_in}
use Rattle.pass_frames_steps.specs.run_step.Values.{Env, access_of, value_in, with_result}
use Rattle.pass_frames_steps.specs.run_step.declared.world.Slot.{Slot}
use Rattle.pass_frames_steps.specs.run_step.declared.world.World.{World}
use Rattle.pass_frames_steps.proofs.run_laws.transfer.Sets.{set_length as value_length}
use Rattle.pass_frames_steps.proofs.run_access_worked.Ended.{rights_same as frames_same, set_frames}
use Rattle.pass_frames_proof.proofs.entering.Cells.{cells_made}
use Rattle.pass_frames_steps.specs.Places.{place_by as place_by_flag}
use Rattle.pass_frames_proof.proofs.calling.Passed.{ahead_passed, caller_passed, passed_on}
use Rattle.pass_frames_proof.proofs.returning.Turned.{placed_at}
use Rattle.pass_frames_steps.proofs.stepping.Onward.{EndsUp, onward_followed}
use Rattle.pass_frames_steps.specs.Costs.{allocas_before, resume_cost}

module _ (b : Building) (g : RenewedGiven) (given : AreGiven b g) (s t0 : State) (label : ℕ)
    (z : IsSleeping b g s label) (k : AreWoken b g s t0 label z)
    (anew : HasNoneAnew b g z.instance.coroutine (kept (g.keep z.instance.coroutine z.suspend) z.env) label
    z.order) where
  -- the operands of the call are fetched
  abbrev t : State
  t = k.state

  abbrev r : AreBuiltOf b s t
  r = k.related

  abbrev func : ℕ
  func = z.instance.coroutine

  abbrev x : Framing
  x = b.framing func

  abbrev p : Instance
  p = z.instance

  abbrev y : Instance
  y = k.beside

  h : AreInstances b r.homes t p y
  h = r.instances z.number p y z.there k.there

  is : IsFraming x
  is = given.framings func h.is_coroutine

  abbrev p' : Instance
  p' = record p { status = Status.Running }

  abbrev y' : Instance
  y' = record y { status = Status.Running }

  abbrev xs : List Instance
  xs = slice_set s.instances z.number p'

  abbrev ys : List Instance
  ys = slice_set t.instances z.number y'

  abbrev env : Env
  env = kept (g.keep func z.suspend) z.env

  abbrev suspend' : Point
  suspend' = own_place x z.suspend

  abbrev a' : Activation
  a' = record (resumed z.number p z.suspend env) { block = anew.edge.block; at = 0 }

  abbrev caller : Activation
  caller = passed_on s.top

  abbrev caller' : Activation
  caller' = placed_at t.top (below_place b caller)

  abbrev s' : State
  s' = record s { instances = xs; top = a'; below = caller ∷ s.below }

  -- at the call
  abbrev at_call : State
  at_call = record t { top = record t.top { block = k.call.block; at = k.call.at } }

  -- where the framed run begins to make allocas
  abbrev u0 : State
  u0 = record t {
    instances = ys;
    top = framed_start b z.number y suspend' label;
    below = caller' ∷ t.below;
  }

  renewed_same : (roots : ℕ → Option ℕ) → ((v : ℕ) → roots v ≡ None) → (e vs : Env) → renewed_values roots e vs ≡ vs
  renewed_same roots none e [] = refl
  renewed_same roots none e (v ∷ vs) =
      λ j. renewed_value e (none 0 j) v ∷ renewed_same (λ i. roots (suc i)) (λ i. none (suc i)) e vs j

  abbrev woken : Env → State
  woken vs = record s {
    instances = xs;
    top = record (resumed z.number p z.suspend vs) { at = 0 };
    below = caller ∷ s.below;
  }

  source_is : renewed_step g s ≡ s'
  source_is =
      k.source
      ∙ ap (renew_after g (push (with_status s z.number p Status.Running) (resumed z.number p z.suspend env))
      z.suspend.block label) anew.none
      ∙ ap (λ (vs : Env). enter_block g.given (woken vs) label) (renewed_same (g.roots func) anew.unrooted env env)
      ∙ ap (λ (f : Function). record s' {
        top = record a' {
          block = position_of f label;
          values = values_in g.given.code (slice_get f.blocks (position_of f label))
              (label_of (slice_get f.blocks z.suspend.block)) env;
        };
      }) (given.coroutines func h.is_coroutine)
      ∙ ap (λ (q : ℕ × Env). record s' { top = record a' { block = q.0; values = q.1 } })
      (enters g.given.code (edged x) label (label_of (slice_get (edged x).blocks z.suspend.block)) env anew.edge.block
      (edge_is b func label z.order anew.edge) (no_phis b func label z.order anew.edge))

  -- ---- the allocas

  framed_is : function_at b.given.given.code func ≡ framed x
  framed_is = ap (λ (m : Module). function_at m func) given.code ∙ (given.built.coroutines func h.is_coroutine).is

  own_framed : function_of b.given.given u0 ≡ framed x
  own_framed = ap (function_at b.given.given.code) h.coroutine ∙ framed_is

  -- ---- instances and memory, when some are made

  same_frame : IsSameFrame y y'
  same_frame = record { coroutine = refl; block = refl; start = refl }

  rights_are : frame_rights b.given ys ≡ frame_rights b.given t.instances
  rights_are = frames_same b.given t.instances ys (set_frames t.instances z.number y y' k.there same_frame)

  places_are : (o : Option ℕ) → IsSamePlace (instance_in t.instances o) (instance_in ys o)
  places_are = set_places t.instances z.number y y' k.there (refl, refl)

  module _ (news : List MemoryBlock) where
    abbrev u : World
    u = record t.world { memory = t.world.memory ++ news }

    running_beside : (top : Activation) → AreInstances b r.homes
        (record t { world = u; instances = ys; top = top }) p' y'
    running_beside top = record {
      coroutine = h.coroutine;
      is_coroutine = h.is_coroutine;
      block = h.block;
      start = h.start;
      status = refl;
      last_save = h.last_save;
      released = h.released;
      freed = h.freed;
      slots = λ slot e. let q = h.slots slot e in record {
        position = q.position;
        position_is = q.position_is;
        home = q.home;
      };
      no_slots = h.no_slots;
    }

    instances_beside : (top : Activation) (below : List Activation) (j : ℕ) (v w : Instance) → slice_get xs j ≡ Some v
        → slice_get ys j ≡ Some w
        → AreInstances b r.homes (record t { world = u; instances = ys; top = top; below = below }) v w
    instances_beside top below j v w e e' =
        instance_same b r.homes r.hides (record t { world = u; instances = ys; top = top }) top below v w
        (set_instances s.instances t.instances z.number p p' y y' z.there k.there
        (AreInstances b r.homes (record t { world = u; instances = ys; top = top })) (running_beside top)
        (λ n v' w' d d' apart.
        instance_grown b s t r given.framings ys rights_are places_are news xs top v' w'
        (r.instances n v' w' d d')) j v w e e')

    many : length ys ≡ length xs
    many = set_length t.instances z.number y' ∙ r.count ∙ sym (set_length s.instances z.number p')

  -- ---- the relation in the block on the edge

  abbrev all : List Instr
  all = front_allocas x

  good : Each IsGoodAlloca all
  good = anew.fronts.good

  all_behind : AreBehind b.given u0 (behind_allocas b.given u0 all) all
  all_behind = are_behind b.given u0 all good

  abbrev v : State
  v = behind_allocas b.given u0 all

  abbrev all_news : List MemoryBlock
  all_news = made_blocks b.given.given.code (function_of b.given.given u0) all

  abbrev c' : Activation
  c' = record u0.top {
    block = anew.edge.block;
    at = 0;
    mode = Mode.Resumed;
    values = v.top.values;
    slots = v.top.slots;
  }

  abbrev t' : State
  t' = record u0 { world = u all_news; top = c' }

  abbrev entering : State → State
  entering w = enter_block b.given.given (record w {
    top = record w.top { block = suspend'.block; at = 0; mode = Mode.Resumed };
  }) label

  -- behind all of them the label is entered
  entered_there : entering (behind_allocas b.given u0 all) ≡ t'
  entered_there =
      ap entering (all_behind.state ∙ ap (λ (mem : List MemoryBlock). record u0 {
        world = record u0.world { memory = mem };
        top = record u0.top { at = v.top.at; values = v.top.values; slots = v.top.slots };
      }) all_behind.memory)
      ∙ ap (λ (f : Function). record t' {
        top = record c' {
          block = position_of f label;
          values = values_in b.given.given.code (slice_get f.blocks (position_of f label))
              (label_of (slice_get f.blocks suspend'.block)) v.top.values;
        };
      }) own_framed
      ∙ ap (λ (q : ℕ × Env). record t' { top = record c' { block = q.0; values = q.1 } })
      (enters b.given.given.code (framed x) label (label_of (slice_get (framed x).blocks suspend'.block)) v.top.values
      anew.edge.block (edge_too b func label z.order anew.edge) (no_phis_too b func label z.order anew.edge))

  abbrev Q : Rights
  Q = frame_rights b.given ys

  abbrev x' : Framing
  x' = b.framing y.coroutine

  -- the values: begin's is the frame's address, and nothing is known of allocas before
  start_values : value_in u0.top.values (begin_of x.function) ≡ frame_address_of y
  start_values =
      ap (λ (o : Option ℕ). value_in (with_result (replicate (length (framed x').names) None) o (frame_address_of y))
      (begin_of x.function))
      (ap (λ (n : ℕ). begin_name (framed (b.framing n))) h.coroutine ∙ z.begins)
      ∙ value_set (record { world = t.world; values = replicate (length (framed x').names) None }) 0
      (begin_of x.function)
      (frame_address_of y)
      (subst (λ (n : ℕ). begin_of x.function < n)
      (sym (length-replicate (length (framed x').names) None
      ∙ ap (λ (n : ℕ). length (framed (b.framing n)).names) h.coroutine)) z.begin_low)

  begin_value : value_in c'.values (begin_of x.function) ≡ frame_address_of y
  begin_value =
      all_behind.others (begin_of x.function)
      anew.fronts.no_begin
      ∙ start_values

  address_stands : IsValue r.homes (frame_address_of p) (frame_address_of y)
  address_stands =
      subst (IsValue r.homes (address_in p.block p.start)) moved_is
      (ap (λ (q : Home). q.is_seen) h.block, refl)
    where
      small_start : (o : ℕ) → o < 2 ^ 64 → (o + 0) % 2 ^ 64 ≡ o
      small_start o lt = omega (arith, lt)

      moved_is : Value.Ptr (Pointer.At (home_of r.homes p.block).block (moved (offset_of p.start)
          (home_of r.homes p.block).offset)) ≡ frame_address_of y
      moved_is =
          ap (λ (q : Home). Value.Ptr (Pointer.At q.block (moved (offset_of p.start) q.offset))) h.block
          ∙ ap (address_in y.block) (small_start p.start z.small ∙ sym h.start)

  start_room : length u0.top.values ≡ length (framed x).names
  start_room =
      result_room (begin_name (framed (b.framing y.coroutine)))
      (replicate (length (framed (b.framing y.coroutine)).names) None) (frame_address_of y)
      ∙ length-replicate (length (framed (b.framing y.coroutine)).names) None
      ∙ ap (λ (n : ℕ). length (framed (b.framing n)).names) h.coroutine
    where
      result_room : (o : Option ℕ) (e : Env) (w : Value) → length (with_result e o w) ≡ length e
      result_room None e w = refl
      result_room (Some n) e w = value_length e n w

  names : AreNamed x r.homes a' c'
  names = record {
    each = λ n asks unkept outside. ⊎_elim
        (λ e. subst (λ (q : ℕ). IsValue r.homes (value_in env q) (value_in c'.values q)) (sym e)
        (subst (IsValue r.homes (value_in env (begin_of x.function))) (sym begin_value)
        (⊎_elim
        (λ none. subst (λ (w : Value). IsValue r.homes w (frame_address_of y)) (sym none) tt)
        (λ same. subst (λ (w : Value). IsValue r.homes w (frame_address_of y)) (sym same) address_stands) z.begun)))
        (λ none. subst (λ (w : Value). IsValue r.homes w (value_in c'.values n)) (sym none) tt)
        (anew.unhanded n unkept outside);
    room = all_behind.room ∙ start_room;
  }

  -- what the fields hold of what is handed on
  fields_right_now : AreFieldsRight x r.homes
      (frame_rights b.given t.instances) t.world.memory z.order z.env y.block y.start
  fields_right_now =
      let q = subst (λ (e : Status). IsStatus b r.homes t p y e y.status) z.status h.status in
      subst (λ (j : ℕ). AreFieldsRight x r.homes (frame_rights b.given t.instances) t.world.memory j z.env y.block
      y.start) (z.numbered q.1 q.3) (q.4 z.unfreed)

  right_now : AreFieldsRight x r.homes Q t'.world.memory z.order env y.block y.start
  right_now =
      let f = right_grown b s t r given.framings ys rights_are places_are all_news x z.order z.env y.block y.start
      fields_right_now in
      record {
        each = λ n position kv is_kept crosses at.
            let q = f.each n position kv is_kept crosses at in (
              q.0,
              q.1,
              q.2,
              turned n kv is_kept crosses kv.slot (anew.unslotted n kv is_kept)
                  (decode (access_of kv.field_ty) q.0) q.3,
            );
      }
    where
      turned : (n : ℕ) (kv : KeptValue) → IsKeptValue x n kv → Contains x.contents.crossing (n, z.order)
          → (o : Option ℕ) → o ≡ None → (w : Value) → IsKeptAs r.homes z.env n kv o w → IsKeptAs r.homes env n kv o w
      turned n kv is_kept crosses None e w q =
          subst (λ (a : Value). IsValue r.homes a w) (sym (z.handed n kv is_kept crosses)) q
      turned n kv is_kept crosses (Some slot) e w q = absurd (cc)

  -- ---- cells are there

  frames_low : (i : ℕ) (w : Instance) → slice_get ys i ≡ Some w → w.block < length t.world.memory
  frames_low i w e =
      let lt : i < length ys = get_within ys i w e in
      let same : length ys ≡ length xs = many [] in
      let q = got xs i (omega (arith, lt, same)) in
      let beside = instances_beside [] c' (caller' ∷ t.below) i q.0 w q.1 e in
      let block = seen_there b s t r given.framings ys rights_are places_are [] q.0.block
      (ap (λ (a : Home). a.is_seen) beside.block) in
      let low : (home_of r.homes q.0.block).block < length t.world.memory =
      get_within t.world.memory (home_of r.homes q.0.block).block block.0 block.1 in
      let at : (home_of r.homes q.0.block).block ≡ w.block = ap (λ (a : Home). a.block) beside.block in
      omega (arith, low, at)

  cell_now : (cell : ℕ) (ty : Ty) → size_of b.framed_code ty ≡ value_bytes ty → IsCellMade x cell ty
      → IsCell Q t'.world.memory c' cell ty Anything
  cell_now cell ty sized made =
      let c = cells_made b.given u0 all good anew.fronts.different
      (λ n l. subst (λ (q : ℕ). n < q) (sym start_room) (anew.fronts.low n l)) frames_low made.position cell
      made.align ty made.there
      (ap (λ (f : Function). has_markers f cell) own_framed ∙ made.unmarked)
      (ap (λ (m : Module). size_of m ty) given.code ∙ sized) made.aligned in
      record {
        block = c.block;
        address = c.address;
        own = c.own;
        bytes = c.bytes;
        sized = c.sized;
        holds = subst (λ (mem : List MemoryBlock). Holds Q mem c.block 0 (value_bytes ty) c.bytes) all_behind.memory
            c.holds;
        has = tt;
      }

  made_now : AreCellsThere x Q t'.world.memory c' × AreWheresThere x Q t'.world.memory c'
  made_now = (
    record {
      values = λ n kv is_kept. cell_now kv.cell kv.ty (anew.edge.sizes n kv is_kept) (anew.edge.values n kv is_kept);
      distances = λ n cell told. cell_now cell (int 64) anew.edge.sized_words.0 (anew.edge.distances n cell told);
    },
    record { each = λ e listed. cell_now e.cell ptr anew.edge.sized_words.1 (anew.edge.wheres e listed) },
  )

  own_there : instance_in ys (Some z.number) ≡ Some y'
  own_there = set_here t.instances z.number y' (get_within t.instances z.number y k.there)

  returned_is : returned_from x a' Mode.Resumed ≡ Some z.order
  returned_is =
      ap (λ (q : Bool). if q then entry (plan x).returns (block_at (edged x) anew.edge.block).label else None)
      anew.edge.returned
      ∙ anew.edge.behind

  top_now : AreActivations b r.homes r.hides t' (top_place b) a' c'
  top_now = record {
    func = h.coroutine;
    place =
        ap (λ (q : Bool). record {
          block = anew.edge.block;
          at = place_by_flag x (record { block = anew.edge.block; at = 0 }) q (anew.edge.block == 0);
        }) (sym anew.edge.returned)
        ∙ sym (top_is b a' h.is_coroutine tt);
    result = refl;
    mode = refl;
    instance = refl;
    has_left = refl;
    values = values_of b r.homes Q t' a' c' (is_coroutine b func) h.is_coroutine (record {
      names = names;
      cells =
          subst (λ (o : Option Instance). HasCells x r.homes Q t'.world.memory o a' c'
          (returned_from x a' Mode.Resumed)) (sym own_there)
          (subst (λ (o : Option ℕ). HasCells x r.homes Q t'.world.memory (Some y') a' c' o) (sym returned_is)
          (right_now, z.gone));
      made = made_now;
    });
    slots = λ slot e. absurd (no_slot slot e);
  }
    where
      no_slot : (slot : Slot) → Contains [] slot → ⊥
      no_slot slot (n, lt, e) = omega (arith, lt)

  -- the caller goes on right behind its call
  caller_now : AreActivations b r.homes r.hides t' (below_place b) caller caller'
  caller_now =
      activation_same b r.homes r.hides (record t { world = u all_news; instances = ys; top = c' }) c'
      (caller' ∷ t.below) (below_place b) caller caller'
      (caller_passed b r.homes r.hides (record t { world = u all_news; instances = ys; top = c' }) s.top t.top k.calm
      (top_place b)
      (activation_on b s t r (s.top ∷ s.below) (t.top ∷ t.below) r.homes r.hides xs ys s.world (u all_news)
      (moves_grown b s t r given.framings ys rights_are places_are all_news) c' (top_place b) s.top t.top
      (inl refl) (inl refl) r.top))

  -- allocas that are still to come
  all_ahead : AreAllAhead b r.homes r.hides s.world.memory (t.world.memory ++ all_news) (s.top ∷ s.below)
      (t.top ∷ t.below)
  all_ahead =
      ahead_on b s t r (s.top ∷ s.below) (t.top ∷ t.below) r.homes r.hides xs ys s.world (u all_news)
      (moves_grown b s t r given.framings ys rights_are places_are all_news) c' (s.top ∷ s.below)
      (t.top ∷ t.below) (λ q l. l) r.ahead

  related : AreBuiltOf b s' t'
  related = record {
    homes = r.homes;
    hides = r.hides;
    world = over_grown b s t r given.framings ys rights_are places_are all_news;
    known = r.known;
    globals = r.globals;
    mates = mates_grown b s t r given.framings ys rights_are places_are all_news;
    hidden = r.hidden;
    count = many all_news;
    instances = instances_beside all_news c' (caller' ∷ t.below);
    top = top_now;
    below = (
      caller_now,
      below_same b r.homes r.hides (record t { world = u all_news; instances = ys; top = c' }) c' (caller' ∷ t.below)
          s.below t.below
          (below_on b s t r (s.top ∷ s.below) (t.top ∷ t.below) r.homes r.hides xs ys s.world (u all_news)
          (moves_grown b s t r given.framings ys rights_are places_are all_news) c' s.below t.below
          (λ q l. inr l) (λ q l. inr l) r.below),
    );
    once = all_behind.once (t.top.slots ++ slots_below t.below) (λ slot e. k.slots slot e) r.once;
    cells = (
      λ q slot e name. ⊎_elim (λ none. absurd (no_slot slot none))
          (λ new. free_grown slot.block new.0) (all_behind.new slot e),
      free_on b s t r (s.top ∷ s.below) (t.top ∷ t.below) r.homes r.hides xs ys s.world (u all_news)
          (moves_grown b s t r given.framings ys rights_are places_are all_news) c' (t.top ∷ t.below)
          (λ q l. l) r.cells,
    );
    ahead = (
      (λ q first at_entry. absurd (cc)),
      (
        (λ is first at_entry.
            ahead_passed (b.framing s.top.func) r.homes r.hides s.world.memory (t.world.memory ++ all_news) s.top t.top
            (below_place b caller) (all_ahead.0 is first at_entry)),
        all_ahead.1,
      ),
    );
    outcome = r.outcome;
  }
    where
      no_slot : (slot : Slot) → Contains [] slot → ⊥
      no_slot slot (n, lt, e) = omega (arith, lt)

      free_grown : (e : ℕ) → length t.world.memory ≤ e → IsFreeOf r.homes r.hides s.world.memory e
      free_grown = free_new b s t r given.framings ys rights_are places_are all_news

  -- ---- the step at the call

  own_given : function_at b.given.given.code y.coroutine ≡ framed (b.framing y.coroutine)
  own_given = own_framed ∙ ap (λ (n : ℕ). framed (b.framing n)) (sym h.coroutine)

  abbrev pushed : State
  pushed =
      push (with_status at_call z.number y Status.Running)
      (resumed z.number y suspend' (reentry_values (function_at b.given.given.code y.coroutine) (frame_address_of y)))

  abbrev began : Function → State
  began f = record u0 {
    top = record u0.top { values = reentry_values f (frame_address_of y) };
    below = record at_call.top { at = at_call.top.at + 1 } ∷ t.below;
  }

  abbrev came : Point → State
  came q = record u0 { below = placed_at t.top q ∷ t.below }

  counted : allocas_before x None ≡ length (front_allocas x)
  counted = all_counted x (entry_there x is)

  price_is : (n : ℕ) → length (front_allocas x) ≡ n → step_cost b g s s.top.mode ≡ k.fetches + 1 + (1 + n - 1)
  price_is n many =
      k.cost
      ∙ ap (λ (o : Option Point). k.fetches + 1 + (resume_cost x (option_map (λ (p : Point). p.at) o) - 1))
      anew.none
      ∙ ap (λ (m : ℕ). k.fetches + 1 + (1 + m - 1)) (counted ∙ many)

  -- ---- the framed form has no allocas

  module _ (bare : front_allocas x ≡ []) where
    none_is : alloca_from (function_at b.given.given.code y.coroutine) 0 ≡ None
    none_is =
        ap (λ (f : Function). alloca_from f 0) own_framed
        ∙ ap (alloca_from (framed x)) (sym (ap length bare))
        ∙ none_left x (entry_there x is)

    at_once : framed_step b.given k.last ≡ t'
    at_once =
        k.target
        ∙ ap (enter_after b.given pushed suspend'.block label) none_is
        ∙ ap (λ (f : Function). entering (began f)) own_given
        ∙ ap (λ (q : Point). entering (came q)) k.behind
        ∙ ap (λ (is : List Instr). entering (behind_allocas b.given u0 is)) (sym bare)
        ∙ entered_there

    at_once_ends : EndsUp b
    at_once_ends = record {
      source = s';
      target = t';
      steps = 0;
      shown = λ n lt. absurd (omega (arith, lt));
      related = related;
    }

    at_once_followed : IsFollowed b g s t0
    unfolding at_once_ends
    at_once_followed =
        onward_followed b g s t0 at_once_ends k.fetches k.last k.leads k.shown k.last_shown at_once source_is
        (price_is 0 (ap length bare))

  -- ---- it has some

  module _ (line : List Instr) (next : Instr) (stands : front_allocas x ≡ line ++ (next ∷ [])) where
    all_stand : StandAt (framed x) 0 0 (line ++ (next ∷ []))
    all_stand = subst (StandAt (framed x) 0 0) stands (entry_stands x (entry_there x is))

    parts_good : Each IsGoodAlloca (line ++ (next ∷ []))
    parts_good = subst (Each IsGoodAlloca) stands good

    line_good : (ks js : List Instr) → Each IsGoodAlloca (ks ++ js) → Each IsGoodAlloca ks × Each IsGoodAlloca js
    line_good [] js e = (tt, e)
    line_good (i ∷ ks) js e = let m = line_good ks js e.1 in ((e.0, m.0), m.1)

    stand_next : (f : Function) (at : ℕ) (ks js : List Instr) → StandAt f 0 at (ks ++ (next ∷ js))
        → StandAt f 0 at (ks ++ (next ∷ []))
    stand_next f at [] js e = (e.0, tt)
    stand_next f at (i ∷ ks) js e = (e.0, stand_next f (at + 1) ks js e.1)

    stand : StandAt (function_of b.given.given u0) 0 0 (line ++ (next ∷ []))
    stand = subst (λ (f : Function). StandAt f 0 0 (line ++ (next ∷ []))) (sym own_framed)
        (stand_next (framed x) 0 line [] all_stand)

    makes : IsMaking u0 suspend'.block label
    makes = record { runs = r.outcome ∙ k.runs; mode = refl; entry_block = refl }

    target_is : framed_step b.given k.last ≡ u0
    target_is =
        k.target
        ∙ ap (enter_after b.given pushed suspend'.block label) first_is
        ∙ ap began own_given
        ∙ ap came k.behind
      where
        head : (ks js : List Instr) → StandAt (framed x) 0 0 (ks ++ (next ∷ js))
            → Each IsGoodAlloca (ks ++ (next ∷ js))
            → (i : Instr) × (IsGoodAlloca i × (fetch (framed x) 0 0 ≡ AtInstr i))
        head [] js e q = (next, (q.0, e.0))
        head (i ∷ ks) js e q = (i, (q.0, e.0))

        first_is : alloca_from (function_at b.given.given.code y.coroutine) 0 ≡ Some (record { block = 0; at = 0 })
        first_is =
            let i = head line [] all_stand parts_good in
            ap (λ (f : Function). alloca_from f 0) own_framed
            ∙ ap (option_map (λ (n : ℕ). record { block = 0; at = n }))
            (alloca_there (slice_get (framed x).blocks 0) 0 i.0 i.1.0 i.1.1)

    reached : (n : ℕ) → n ≤ length line → iterate (framed_step b.given) n u0 ≡ behind_allocas b.given u0 (take n line)
    reached n le =
        up_to_next b.given suspend'.block label u0 makes line next
        (line_good line (next ∷ []) parts_good).0 refl' stand n le
      where
        refl' : IsGoodAlloca next
        refl' = (line_good line (next ∷ []) parts_good).1.0

    -- ---- what is shown on the way

    part_good : (js : List Instr) (q : ℕ) → Each IsGoodAlloca js → Each IsGoodAlloca (take q js)
    part_good js zero e = tt
    part_good [] (suc q) e = tt
    part_good (i ∷ js) (suc q) e = (e.0, part_good js q e.1)

    module _ (n : ℕ) (le : n ≤ length line) where
      abbrev w' : State
      w' = behind_allocas b.given u0 (take n line)

      m : AreBehind b.given u0 w' (take n line)
      m = are_behind b.given u0 (take n line) (part_good line n (line_good line (next ∷ []) parts_good).0)

      abbrev news : List MemoryBlock
      news = made_blocks b.given.given.code (function_of b.given.given u0) (take n line)

      abbrev top' : Activation
      top' = record u0.top { at = w'.top.at; values = w'.top.values; slots = w'.top.slots }

      beside_now : (j : ℕ) (v w : Instance) → slice_get xs j ≡ Some v → slice_get ys j ≡ Some w
          → AreInstances b r.homes (record u0 {
            world = record u0.world { memory = w'.world.memory };
            top = top';
          }) v w
      beside_now j v w e e' =
          subst (λ (mem : List MemoryBlock). AreInstances b r.homes (record u0 {
            world = record u0.world { memory = mem };
            top = top';
          }) v w) (sym m.memory) (instances_beside news top' (caller' ∷ t.below) j v w e e')

      shown : IsOn b s' w'
      shown = subst (IsOn b s') (sym m.state) (record {
        running = r.outcome ∙ k.runs;
        shown = record {
          homes = r.homes;
          events = events_same b s t r;
          outcome = r.outcome;
          instances = λ j v e suspended.
              let lt : j < length xs = get_within xs j v e in
              let same : length ys ≡ length xs = many news in
              let w = got ys j (omega (arith, lt, same)) in (w.0, w.1, beside_now j v w.0 e w.1);
        };
      })

    last_none : alloca_from (function_of b.given.given u0) (0 + length line + 1) ≡ None
    last_none =
        let same : length (front_allocas x) ≡ length line + 1 =
        ap length stands ∙ length-append line (next ∷ []) in
        let at : 0 + length line + 1 ≡ length (front_allocas x) = omega (arith, same) in
        (λ j. alloca_from (own_framed j) (at j)) ∙ none_left x (entry_there x is)

    entered_is : iterate (framed_step b.given) (suc (length line)) u0 ≡ t'
    entered_is =
        to_the_last b.given suspend'.block label u0 makes line next (line_good line (next ∷ []) parts_good).0
        (line_good line (next ∷ []) parts_good).1.0 stand last_none
        ∙ ap entering (last_behind b.given u0 line next ∙ ap (behind_allocas b.given u0) (sym stands))
        ∙ entered_there

    -- ---- the account

    ends : EndsUp b
    ends = record {
      source = s';
      target = u0;
      steps = suc (length line);
      shown = λ n lt.
          subst (IsOn b s') (sym (reached n (omega (arith, lt)))) (shown n (omega (arith, lt)));
      related = subst (AreBuiltOf b s') (sym entered_is) related;
    }

    some_followed : IsFollowed b g s t0
    unfolding ends
    some_followed =
        onward_followed b g s t0 ends k.fetches k.last k.leads k.shown k.last_shown target_is source_is price
      where
        enough : (n m : ℕ) → n + 1 + (1 + (m + 1) - 1) ≡ n + 1 + suc m
        enough n m = omega arith

        price : step_cost b g s s.top.mode ≡ k.fetches + 1 + suc (length line)
        price =
            price_is (length line + 1) (ap length stands ∙ length-append line (next ∷ []))
            ∙ enough k.fetches (length line)

  pub entered_followed : IsFollowed b g s t0
  entered_followed = on (front_allocas x) refl
    where
      last_of : (i : Instr) (is : List Instr) → (ks : List Instr) × (k : Instr) × (i ∷ is ≡ ks ++ (k ∷ []))
      last_of i [] = ([], i, refl)
      last_of i (j ∷ is) =
          let more = last_of j is in (i ∷ more.0, more.1, ap (λ (ks : List Instr). i ∷ ks) more.2)

      on : (js : List Instr) → front_allocas x ≡ js → IsFollowed b g s t0
      on [] e = at_once_followed e
      on (i ∷ is) e = let parts = last_of i is in some_followed parts.0 parts.1 (e ∙ parts.2)
