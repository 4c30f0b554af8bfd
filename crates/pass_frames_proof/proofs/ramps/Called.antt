-- A call of a ramp is followed: the framed run executes the front of the entry with the call.
use Rattle.std.proofs.Common.{◌≡◌, ◌⊎◌, ◌+◌, ◌-◌, ◌<◌, ◌≤◌, ◌∙◌, ◌∷◌, ◌++◌, [], Bool, List, None, Option, Some, ap, arith, false, inl, inr, length, length-append, refl, replicate, subst, sym, true, ℕ}
use Rattle.std.proofs.lemmas.Bool.{cases_lt}
use Rattle.std.specs.List.{Contains}
use Rattle.std.specs.Prelude.{if◌then◌else◌, map, slice_get}
use Rattle.pass_frames_steps.specs.flow_solver.Paths.{IsListed}
use Rattle.pass_frames_steps.specs.ir_base.declared.outcome.Outcome.{Outcome}
use Rattle.pass_frames_steps.proofs.ir_laws.facts.Lists.{get_within}
use Rattle.pass_frames_steps.proofs.ir_laws.facts.Members.{each_turns}
use Rattle.pass_frames_steps.specs.ir_laws.paths.woven_rules.Pairs.{AreDifferent}
use Rattle.pass_frames_steps.specs.ir_model.Layout.{size_of}
use Rattle.pass_frames_steps.specs.ir_model.Names.{function_at}
use Rattle.pass_frames_steps.specs.ir_model.Ty.{Ty, ptr}
use Rattle.pass_frames_steps.specs.ir_model.declared.instr.Instr.{Instr}
use Rattle.pass_frames_steps.specs.ir_model.declared.module.Function.{Function}
use Rattle.pass_frames_steps.specs.ir_model.declared.module.Module.{Module}
use Rattle.pass_frames_steps.specs.ir_model.declared.module.Param.{Param}
use Rattle.pass_frames_steps.specs.pass_fetch.Fetching.{value_bytes}
use Rattle.pass_frames_proof.proofs.calling.Callers.{Enters, coroutine_enters, other_enters}
use Rattle.pass_frames_proof.proofs.calling.Passed.{passed_on}
use Rattle.pass_frames_proof.proofs.calling.Push.{pushed, t'}
use Rattle.pass_frames_proof.proofs.entered.Allocas.{all_grow, all_made, slots_differ, slots_new, some_made, values_long}
use Rattle.pass_frames_proof.proofs.entered.Front.{entry_stored}
use Rattle.pass_frames_proof.proofs.entered.Ways.{stores_pass}
use Rattle.pass_frames_proof.proofs.from_edges.Front.{listed_contains}
use Rattle.pass_frames_steps.proofs.led.Steps.{fills_elsewhere}
use Rattle.pass_frames_steps.proofs.lined.Lines.{each_between, line_leads}
use Rattle.pass_frames_steps.proofs.lines.Cells.{contained, other_block}
use Rattle.pass_frames_proof.proofs.ramps.Allocas.{allocas_in_front}
use Rattle.pass_frames_proof.proofs.ramps.Behind.{AreEntryAllocas, all_may_put, block_ahead, bytes_ahead, cells_there, framed_coroutine, framed_params, stores_new, there as alloca_there}
use Rattle.pass_frames_proof.proofs.ramps.Entry.{IsBareEntry, bare_entry}
use Rattle.pass_frames_proof.proofs.ramps.Front.{entry_front}
use Rattle.pass_frames_proof.proofs.ramps.Grown.{grown_over, grown_shown, new_free}
use Rattle.pass_frames_proof.proofs.ramps.Markers.{entry_name}
use Rattle.pass_frames_proof.proofs.ramps.Params.{are_unaddressed, params_low, params_once}
use Rattle.pass_frames_proof.proofs.ramps.Rules.{entry_allocas}
use Rattle.pass_frames_proof.proofs.ramps.Values.{entry_below, names_given, none_long, params_given, params_long, stand_on, unset_poison}
use Rattle.pass_frames_proof.proofs.returning.Behind.{stand_before, stand_behind}
use Rattle.pass_frames_proof.proofs.returning.Turned.{placed_at}
use Rattle.pass_frames_steps.proofs.stepping.After.{cells_turned, right_there, wheres_there, wheres_turned}
use Rattle.pass_frames_steps.proofs.stepping.Fetch.{not_returned, own_blocks}
use Rattle.pass_frames_steps.proofs.stepping.Onward.{EndsUp, onward_followed}
use Rattle.pass_frames_steps.proofs.stepping.Rest.{got}
use Rattle.pass_frames_steps.proofs.stepping.Stands.{made_of, top_is, values_of}
use Rattle.pass_frames_steps.proofs.suspending.Given.{edged_framed}
use Rattle.pass_frames_proof.proofs.waking.Grown.{seen_there}
use Rattle.pass_frames_steps.proofs.moved.Rest.{same_place}
use Rattle.pass_frames_steps.specs.Calling.{HasBlocks, IsAtCall, IsAtPlainCall}
use Rattle.pass_frames_steps.specs.Costs.{call_cost}
use Rattle.pass_frames_steps.specs.Entered.{IsAlloca, IsEntryName, IsEntryStored, IsNewStore, IsOnEntry, IsThere, Made, made_all, made_state}
use Rattle.pass_frames_steps.specs.Entering.{front_allocas}
use Rattle.pass_frames_steps.specs.Followed.{IsFollowed, IsOn}
use Rattle.pass_frames_steps.specs.Framings.{IsFraming}
use Rattle.pass_frames_steps.specs.Led.{RunsThrough}
use Rattle.pass_frames_steps.specs.Lined.{GivesNone, gives_frame, lined}
use Rattle.pass_frames_steps.specs.Lines.{HasOwnBlocks}
use Rattle.pass_frames_steps.specs.Places.{Framing, edged, framed, place}
use Rattle.pass_frames_steps.specs.Ramps.{HasAllocasInFront, HasEntryFront, IsRamp, entry_stores}
use Rattle.pass_frames_steps.specs.Related.{AreActivations, AreAhead, AreBuiltOf, AreCellsRight, AreCoroutines, AreWheresRight, Building, HasCells, IsAhead, IsBuiltBy, IsCellName, IsFreeOf, all_slots, below_place, instance_in, is_coroutine, point_of, top_place}
use Rattle.pass_frames_steps.specs.Returning.{IsAmong}
use Rattle.pass_frames_steps.specs.Stepping.{AreGiven}
use Rattle.pass_frames_steps.specs.Stores.{IsNameGiven, given_params}
use Rattle.pass_frames_steps.specs.pass_renewed_proof.Renewed.{RenewedGiven, renewed_step}
use Rattle.pass_frames_steps.proofs.run_agreement.Runs.{iterate-add}
use Rattle.pass_frames_steps.specs.run_agreement.Machines.{iterate}
use Rattle.pass_frames_steps.specs.run_framed.Framed.{frame_rights, framed_context, framed_step}
use Rattle.pass_frames_steps.specs.run_laws.access.Accessed.{Span}
use Rattle.pass_frames_steps.specs.run_laws.access.Lines.{StandAt}
use Rattle.pass_frames_steps.specs.run_laws.changed.Changed.{Each}
use Rattle.pass_frames_steps.specs.run_laws.memory.Pointers.{Home, IsValue, home_of}
use Rattle.pass_frames_steps.proofs.run_access_worked.run_laws_worked.Frames.{frame_rights_fit}
use Rattle.pass_frames_steps.specs.run_memory.Memory.{Rights}
use Rattle.pass_frames_steps.specs.run_memory.declared.block.Byte.{Byte}
use Rattle.pass_frames_steps.specs.run_memory.declared.block.MemoryBlock.{MemoryBlock}
use Rattle.pass_frames_steps.specs.run_memory.declared.pointer.Value.{Value}
use Rattle.pass_frames_steps.specs.run_source.Source.{mode_of}
use Rattle.pass_frames_steps.specs.run_source.State.{function_of, work_of}
use Rattle.pass_frames_steps.specs.run_source.declared.state.Activation.{Activation}
use Rattle.pass_frames_steps.specs.run_source.declared.state.Instance.{Instance}
use Rattle.pass_frames_steps.specs.run_source.declared.state.Mode.{Mode}
use Rattle.pass_frames_steps.specs.run_source.declared.state.State.{State}
use Rattle.pass_frames_steps.specs.run_step.Step.{Context, Work, entry_values, with_params}
use Rattle.pass_frames_steps.specs.run_step.Values.{Env, value_in}
use Rattle.pass_frames_steps.specs.run_step.declared.world.Slot.{Slot}
use Rattle.pass_frames_steps.specs.run_step.declared.world.World.{World}

module _ (b : Building) (g : RenewedGiven) (given : AreGiven b g) (s t : State) (func : ℕ) (args : List Value)
    (result : Option ℕ) (enters : Enters b g s t func args result) (runs : s.outcome ≡ Outcome.Running)
    (coroutine : is_coroutine b func ≡ true) (ramp : IsRamp b.framed_code func (b.framing func) args)
    (slots_there : (n : ℕ) → IsAmong n (all_slots t) → n < length t.world.memory) where
  abbrev x : Framing
  x = b.framing func

  is : IsFraming x
  is = given.framings func coroutine

  built : IsBuiltBy b func
  built = given.built.coroutines func coroutine

  abbrev q : State
  q = enters.state

  abbrev r : AreBuiltOf b s q
  r = enters.related

  abbrev R : Rights
  R = frame_rights b.given q.instances

  abbrev m : List MemoryBlock
  m = q.world.memory

  there : (n : ℕ) → IsAmong n (all_slots q) → n < length m
  there n l =
      subst (λ (k : List MemoryBlock). n < length k) (sym enters.memory)
      (slots_there n (subst (IsAmong n) enters.slots l))

  co : x.function.coroutine ≡ true
  co = ap (λ (f : Function). f.coroutine) built.function ∙ coroutine

  target_code : function_at b.given.given.code func ≡ framed x
  target_code = ap (λ (z : Module). function_at z func) given.code ∙ built.is

  -- ---- both runs push an activation

  abbrev of_function : Function → List Value → Mode → Activation
  of_function f vs mode = record {
    func = func;
    block = 0;
    at = 0;
    values = entry_values f vs;
    slots = [];
    result = result;
    mode = mode;
    instance = None;
    has_left = false;
  }

  abbrev source_env : Env
  source_env = entry_values (edged x) args

  abbrev env : Env
  env = with_params (replicate (length (framed x).names) None) (edged x).params enters.others

  abbrev first : Activation
  first = of_function (edged x) args Mode.Ramp

  abbrev new0 : Activation
  new0 = record first { values = env }

  abbrev old_s : Activation
  old_s = passed_on s.top

  abbrev old_t : Activation
  old_t = placed_at q.top (below_place b old_s)

  abbrev s' : State
  s' = record s { top = first; below = old_s ∷ s.below }

  abbrev u0 : State
  u0 = record q { top = new0; below = old_t ∷ q.below }

  source_is : renewed_step g s ≡ s'
  source_is =
      enters.source
      ∙ ap (λ (f : Function). record s { top = of_function f args (mode_of f); below = old_s ∷ s.below })
      (given.coroutines func coroutine)
      ∙ ap (λ (k : Bool). record s' { top = record first { mode = if k then Mode.Ramp else Mode.Plain } }) co

  target_is : framed_step b.given enters.last ≡ u0
  target_is =
      enters.next
      ∙ ap (λ (f : Function). record q { top = of_function f enters.others (mode_of f); below = old_t ∷ q.below })
      target_code
      ∙ (λ i. record u0 {
        top = record new0 {
          values = with_params (replicate (length (framed x).names) None) (framed_params x i) enters.others;
          mode = if (framed_coroutine x ∙ co) i then Mode.Ramp else Mode.Plain;
        };
      })

  running : q.outcome ≡ Outcome.Running
  running = r.outcome ∙ runs

  room : length env ≡ length (framed x).names
  room =
      params_long (replicate (length (framed x).names) None) (edged x).params enters.others
      ∙ none_long (length (framed x).names)

  frames_low : (i : ℕ) (y : Instance) → slice_get q.instances i ≡ Some y → y.block < length m
  frames_low i y e =
      let lt : i < length q.instances = get_within q.instances i y e in
      let same : length q.instances ≡ length s.instances = r.count in
      let z = got s.instances i (omega (arith, lt, same)) in
      let beside = r.instances i z.0 y z.1 e in
      let block = seen_there b s q r given.framings q.instances refl (λ o. same_place (instance_in q.instances o)) []
      z.0.block (ap (λ (h : Home). h.is_seen) beside.block) in
      let low : (home_of r.homes z.0.block).block < length m =
      get_within m (home_of r.homes z.0.block).block block.0 block.1 in
      let at : (home_of r.homes z.0.block).block ≡ y.block = ap (λ (h : Home). h.block) beside.block in
      omega (arith, low, at)

  params_are_low : Each (λ (p : Param). p.name < length (edged x).names) (edged x).params
  params_are_low = params_low is.position (edged x) is.frameable.rules.tabled

  -- ---- the allocas

  h : AreEntryAllocas b.framed_code x
  h = entry_allocas b.framed_code func x is ramp.entry ramp.allocas

  abbrev line1 : List Instr
  line1 = front_allocas x

  abbrev line2 : List Instr
  line2 = entry_stores x

  bare : IsBareEntry x
  bare = bare_entry x is ramp.entry

  front : HasEntryFront x
  front = entry_front x is ramp.entry

  inside : HasAllocasInFront x
  inside = allocas_in_front x is ramp.entry

  abbrev k0 : Made
  k0 = record { memory = m; values = env; slots = [] }

  abbrev K : Made
  K = made_all b.framed_code (framed x) k0 line1 h.allocas

  abbrev u1 : State
  u1 = made_state u0 K (0 + length line1)

  own_framed : function_of b.given.given u0 ≡ framed x
  own_framed = target_code

  stand1 : StandAt (function_of b.given.given u0) 0 0 line1
  stand1 =
      subst (λ (f : Function). StandAt f 0 0 line1) (sym own_framed)
      (stand_before (framed x) 0 0 line1 line2 front.stand)

  leads1 : iterate (framed_step b.given) (length line1) u0 ≡ u1
  leads1 =
      all_made b.given u0 running refl k0 0 line1 h.allocas stand1
      ∙ (λ i. made_state u0 (made_all (given.code i) (own_framed i) k0 line1 h.allocas) (0 + length line1))

  shown1 : (i : ℕ) → i ≤ length line1 → IsOn b s' (iterate (framed_step b.given) i u0)
  shown1 i le =
      let z = some_made b.given u0 running refl k0 0 line1 h.allocas stand1 i le in
      subst (IsOn b s') (sym z.1)
      (grown_shown b s q r given.framings there (record q.world { memory = z.0.memory }) z.2.same running refl first
      (record new0 { at = 0 + (0 + i); values = z.0.values; slots = z.0.slots }) (old_s ∷ s.below) (old_t ∷ q.below))

  -- ---- behind them

  once1 : AreDifferent (map (λ (slot : Slot). slot.block) (K.slots ++ all_slots q))
  once1 = slots_differ b.framed_code (framed x) (all_slots q) k0 line1 h.allocas there r.once

  own1 : HasOwnBlocks u1.top
  own1 = own_blocks u1 once1

  poison : Each (λ (j : Instr). (a : IsAlloca j) → value_in source_env a.name ≡ Value.Poison) line1
  poison =
      each_turns
      (λ (j : Instr). (a : IsAlloca j) (p : Param) → IsListed p (edged x).params → p.name ≡ a.name → ⊥)
      (λ (j : Instr). (a : IsAlloca j) → value_in source_env a.name ≡ Value.Poison)
      (λ j none a. unset_poison (length (edged x).names) (edged x).params args a.name (λ p l e. none a p l e)) line1
      h.unset

  stands1 : (v : ℕ) → IsValue r.homes (value_in source_env v) (value_in K.values v)
  stands1 =
      stand_on b.framed_code (framed x) r.homes source_env k0 line1 h.allocas poison
      (entry_below r.homes (length (edged x).names) (length (edged x).names) (length (framed x).names) (edged x).params
      args enters.others (omega arith) (edged_framed x) enters.values params_are_low).each

  abbrev w1 : Work
  w1 = work_of u1

  abbrev d : Context
  d = framed_context b.given u1

  given1 : Each (IsNameGiven x r.homes w1) (given_params (edged x).params args)
  given1 =
      names_given x r.homes source_env w1 (given_params (edged x).params args) ramp.params.fit
      (are_unaddressed x is args)
      (params_given (edged x).params args (replicate (length (edged x).names) None)
      (params_once is.position (edged x) is.frameable.rules.definitions)
      (each_turns (λ (p : Param). p.name < length (edged x).names)
      (λ (p : Param). p.name < length (replicate (length (edged x).names) None))
      (λ p lt. subst (λ (n : ℕ). p.name < n) (sym (none_long (length (edged x).names))) lt)
      (edged x).params params_are_low)) stands1

  low_at : (js : List Instr) (cell : ℕ) (ty : Ty) (align : ℕ) → Each IsAlloca js
      → Each (λ (j : Instr). (a : IsAlloca j) → a.name < length (framed x).names) js
      → IsListed (Instr.Alloca cell ty align) js → cell < length (framed x).names
  low_at [] cell ty align ups low l = absurd l
  low_at (j ∷ js) cell ty align ups low (inl e) =
      let lt = low.0 ups.0 in
      let same : cell ≡ ups.0.name = one (e ∙ ups.0.is) in
      omega (arith, lt, same)
    where
      one : Instr.Alloca cell ty align ≡ Instr.Alloca ups.0.name ups.0.ty ups.0.align → cell ≡ ups.0.name
      one same = cc
  low_at (j ∷ js) cell ty align ups low (inr l) = low_at js cell ty align ups.1 low.1 l

  stored : IsEntryStored x r.homes d w1 u1.top args (length (framed x).names)
  stored =
      entry_stored x is r.homes d (frame_rights_fit b.given q.instances) u1.top own1 w1 args (length (framed x).names)
      ramp.params.long given1
      (cells_there b x is h inside q.instances m env room frames_low u1.top refl refl) inside.once
      (all_may_put b x is h inside q.instances m env room frames_low u1.top refl refl (length (framed x).names)
      (λ e l. low_at line1 e.cell ptr (value_bytes ptr) h.allocas h.low (inside.wheres e l)))

  -- ---- the stores

  abbrev z : Work
  z = stored.work

  abbrev P : Work → Type 0
  P = IsOnEntry K.values q.world (length m)

  abbrev IsNew : Instr → Type 0
  IsNew = IsNewStore K.values (length m)

  on1 : P w1
  on1 = record {
    values = refl;
    events = refl;
    same = (all_grow b.framed_code (framed x) k0 line1 h.allocas).same;
  }

  news : Each IsNew line2
  news = stores_new b x is h inside q.instances m env room frames_low

  pass : RunsThrough d P line2 w1 z × P z
  pass = stores_pass d K.values q.world (length m) line2 news w1 z on1 stored.over.runs

  stand2 : StandAt (function_of b.given.given u1) 0 u1.top.at line2
  stand2 =
      let e : 0 + length line1 ≡ 0 + (0 + length line1) = omega arith in
      subst (λ (f : Function). StandAt f 0 u1.top.at line2) (sym own_framed)
      (subst (λ (n : ℕ). StandAt (framed x) 0 n line2) e
      (stand_behind (framed x) 0 0 line1 line2 front.stand))

  gives : Each (GivesNone b.given.given.code) line2
  gives =
      each_turns IsNew (GivesNone b.given.given.code) (λ j e. ap (gives_frame b.given.given.code) e.is) line2 news

  leads2 : iterate (framed_step b.given) (length line2) u1 ≡ lined u1 (length line2) z
  leads2 = line_leads b.given u1 P line2 z running stand2 gives pass.0

  shown2 : (i : ℕ) → i < length line2 → IsOn b s' (iterate (framed_step b.given) i u1)
  shown2 i lt =
      let e = each_between b.given u1 P line2 z running stand2 gives pass.0 i lt in
      subst (IsOn b s') (sym e.1.0)
      (grown_shown b s q r given.framings there e.0.world e.1.1.same running e.1.1.events first
      (record u1.top { at = u1.top.at + i; values = e.0.values }) (old_s ∷ s.below) (old_t ∷ q.below))

  -- ---- the relation behind them

  abbrev u : World
  u = z.world

  abbrev new : Activation
  new = record u1.top { at = u1.top.at + length line2; values = z.values }

  abbrev t2 : State
  t2 = t' b s q r given.framings there u pass.1.same enters.calm new

  free : (e : ℕ) → length m ≤ e → IsFreeOf r.homes r.hides s.world.memory e
  free = new_free b s q r given.framings there u pass.1.same

  right : AreCellsRight x r.homes R u.memory source_env new
  right = cells_turned R u.memory (record u1.top { values = z.values }) new x r.homes source_env refl refl stored.right

  wheres : AreWheresRight x R u.memory None new
  wheres =
      wheres_turned R u.memory (record u1.top { values = z.values }) new x None refl (λ e l. (refl, refl))
      stored.wheres

  values_now : AreCoroutines x r.homes R t2 first new
  values_now = record {
    names = record {
      each = λ v asks unkept outside.
          subst (λ (e : Env). IsValue r.homes (value_in source_env v) (value_in e v)) (sym stored.values) (stands1 v);
      room = ap length stored.values ∙ values_long b.framed_code (framed x) k0 line1 h.allocas ∙ room;
    };
    cells =
        subst (λ (o : Option ℕ). HasCells x r.homes R u.memory None first new o)
        (sym (not_returned x first Mode.Ramp tt bare.unreturned)) (right, wheres);
    made = made_of x R u.memory new Mode.Ramp tt (
      right_there x is r.homes R u.memory source_env new right,
      wheres_there x R u.memory new None wheres,
    );
  }

  place_is : point_of new ≡ top_place b first
  place_is =
      (λ i. record { block = 0; at = at_is i }) ∙ sym (top_is b first coroutine tt)
    where
      at_is : u1.top.at + length line2 ≡ (place x (record { block = 0; at = 0 })).at
      at_is =
          let e : (place x (record { block = 0; at = 0 })).at ≡ length (line1 ++ line2) = front.place in
          let long : length (line1 ++ line2) ≡ length line1 + length line2 = length-append line1 line2 in
          omega (arith, e, long)

  top_new : AreActivations b r.homes r.hides t2 (top_place b) first new
  top_new = record {
    func = refl;
    place = place_is;
    result = refl;
    mode = refl;
    instance = refl;
    has_left = refl;
    values = values_of b r.homes R t2 first new (is_coroutine b func) coroutine values_now;
    slots = λ slot e. absurd (omega (arith, e.1));
  }

  -- ---- allocas that the source is still to make

  ahead_one : (name align : ℕ) (ty : Ty) → IsListed (Instr.Alloca name ty align) line1
      → ((v : ℕ) → IsCellName x v → v ≡ name → ⊥)
      → IsAhead x r.homes r.hides s.world.memory u.memory new name ty align
  ahead_one name align ty l apart = record {
    block = e.block;
    address = ap (λ (vs : Env). value_in vs name) stored.values ∙ e.address;
    own = own;
    free = free e.block e.new;
    bytes = replicate (size_of x.code ty) Byte.Undefined;
    sized = bytes_ahead b x is h inside q.instances m env room frames_low ty;
    there =
        fills_elsewhere R stored.spans K.memory u.memory e.block stored.over.fills
        (each_turns
        (λ (p : Span). (v : ℕ) × IsEntryName x v × Contains K.slots (record { alloca = v; block = p.block }))
        (λ (p : Span). p.block ≡ e.block → ⊥)
        (λ p k. other_block u1.top k.0 name p.block e.block own1 k.2 own (apart k.0 (entry_name x k.0 k.1)))
        stored.spans stored.inside)
        ∙ e.there ∙ block_ahead b x is h inside q.instances m env room frames_low co name align ty;
  }
    where
      e : IsThere b.framed_code (framed x) (length m) K name ty align
      e = alloca_there b x is h inside q.instances m env room frames_low name align ty l

      own : Contains K.slots (record { alloca = name; block = e.block })
      own = listed_contains K.slots (record { alloca = name; block = e.block }) e.own

  ahead_new : AreAhead x r.homes r.hides s.world.memory u.memory first new
  ahead_new = record {
    slots = λ at v align ty e le out.
        ahead_one v align ty (inside.own at v align ty e out)
        (λ n name same. let lt = h.own at v align ty e in let high = name.new in omega (arith, lt, high, same));
    temporaries = λ e at align ty l there le.
        ahead_one e.temporary e.align e.ty (inside.temporaries e l)
        (λ n name same. name.no_temporary e l (sym same));
  }

  related : AreBuiltOf b s' t2
  related =
      pushed b s q r given.framings there u pass.1.same enters.calm new
      (grown_over b s q r given.framings there u pass.1.same stored.over.world) first top_new once1
      (λ is slot e name.
      free slot.block
      (slots_new b.framed_code (framed x) (length m) k0 line1 h.allocas (omega arith) (λ o l. absurd l) slot
      (contained K.slots slot e)))
      (λ is ramp zero. ahead_new)

  -- ---- the account

  abbrev total : ℕ
  total = length line1 + length line2

  all_lead : iterate (framed_step b.given) total u0 ≡ t2
  all_lead =
      iterate-add (framed_step b.given) (length line1) (length line2) u0
      ∙ ap (iterate (framed_step b.given) (length line2)) leads1 ∙ leads2

  all_shown : (i : ℕ) → i < total → IsOn b s' (iterate (framed_step b.given) i u0)
  all_shown i lt = on (cases_lt i (length line1))
    where
      on : (i < length line1) ⊎ (length line1 ≤ i) → IsOn b s' (iterate (framed_step b.given) i u0)
      on (inl less) = shown1 i (omega (arith, less))
      on (inr le) =
          let n : ℕ = i - length line1 in
          let same : length line1 + n ≡ i = omega (arith, le) in
          subst (λ (j : ℕ). IsOn b s' (iterate (framed_step b.given) j u0)) same
          (subst (IsOn b s')
          (sym (iterate-add (framed_step b.given) (length line1) n u0
          ∙ ap (iterate (framed_step b.given) n) leads1)) (shown2 n (omega (arith, lt, le))))

  ends : EndsUp b
  ends = record {
    source = s';
    target = u0;
    steps = total;
    shown = all_shown;
    related = subst (AreBuiltOf b s') (sym all_lead) related;
  }

  pub ramp_followed : IsFollowed b g s t
  unfolding ends
  ramp_followed =
      onward_followed b g s t ends enters.n enters.last enters.leads enters.line_shown enters.last_shown target_is
      source_is
      (enters.cost ∙ ap (λ (k : Bool). enters.n + 1 + (if k then call_cost x else 0)) coroutine
      ∙ ap (λ (n : ℕ). enters.n + 1 + n) (front.place ∙ length-append line1 line2))

-- from a coroutine, or from a function that is none
pub ramps_followed : (b : Building) (g : RenewedGiven) → AreGiven b g → (s t : State) → AreBuiltOf b s t → (i : Instr)
    (func : ℕ) (args : List Value) (result : Option ℕ) (must_tail : Bool)
    → IsAtCall b g s i func args result must_tail → is_coroutine b func ≡ true
    → IsRamp b.framed_code func (b.framing func) args → HasBlocks t → IsFollowed b g s t
ramps_followed b g given s t r i func args result must_tail h coroutine ramp there =
    ramp_followed b g given s t func args result
    (coroutine_enters b g given s t r i func args result must_tail h) h.runs coroutine ramp there

pub other_ramps_followed : (b : Building) (g : RenewedGiven) → AreGiven b g → (s t : State) → AreBuiltOf b s t
    → (i : Instr) (func : ℕ) (args : List Value) (result : Option ℕ) (must_tail : Bool)
    → IsAtPlainCall b g s i func args result must_tail → is_coroutine b func ≡ true
    → IsRamp b.framed_code func (b.framing func) args → HasBlocks t → IsFollowed b g s t
other_ramps_followed b g given s t r i func args result must_tail h coroutine ramp there =
    ramp_followed b g given s t func args result
    (other_enters b g given s t r i func args result must_tail h) h.runs coroutine ramp there
