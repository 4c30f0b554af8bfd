-- A jump from a block on a resume or destroy edge is followed, with what stands in front there.
use Rattle.std.proofs.Common.{◌≡◌, ◌⊎◌, ◌+◌, ◌-◌, ◌<◌, ◌≤◌, ◌==◌, ◌∙◌, [], if◌then◌else◌, Bool, Err, List, None, Ok, Option, Result, Some, ap, arith, false, inl, inr, length, map, refl, subst, sym, true, ℕ, ⊎_elim}
use Rattle.std.proofs.lemmas.Bool.{cases_lt}
use Rattle.std.specs.List.{Contains}
use Rattle.std.specs.Prelude.{filter, slice_get}
use Rattle.pass_frames_steps.specs.flow_solver.Paths.{IsListed}
use Rattle.pass_frames_steps.specs.ir_base.declared.cause.Cause.{Cause}
use Rattle.pass_frames_steps.specs.ir_base.declared.outcome.Outcome.{Outcome}
use Rattle.pass_frames_steps.specs.ir_model.Names.{function_at, position_of}
use Rattle.pass_frames_steps.specs.ir_model.Ty.{ptr}
use Rattle.pass_frames_steps.specs.ir_model.declared.instr.Instr.{Instr}
use Rattle.pass_frames_steps.specs.ir_model.declared.instr.Terminator.{Terminator}
use Rattle.pass_frames_steps.specs.ir_model.declared.module.Block.{Block}
use Rattle.pass_frames_steps.specs.ir_model.declared.module.Function.{Function}
use Rattle.pass_frames_steps.specs.ir_paths.Paths.{entry_point}
use Rattle.pass_frames_steps.specs.ir_paths.Windows.{leaves}
use Rattle.pass_frames_steps.specs.ir_paths.declared.point.Point.{Point}
use Rattle.pass_frames_steps.specs.ir_paths.declared.point.Window.{Window}
use Rattle.pass_frames_steps.specs.pass_cells.Kept.{entry}
use Rattle.pass_frames_steps.specs.pass_cells.Written.{row_at, stored_phis}
use Rattle.pass_frames_steps.specs.pass_copies.declared.slot.EarlySlot.{EarlySlot}
use Rattle.pass_frames_steps.specs.pass_fetch.Fetching.{value_bytes}
use Rattle.pass_frames_steps.proofs.followed.Assembly.{events_same, other_instance}
use Rattle.pass_frames_proof.proofs.from_edges.Front.{front_done, front_is_line}
use Rattle.pass_frames_proof.proofs.from_edges.Places.{ReturnsInPlace, return_there, line_gives}
use Rattle.pass_frames_proof.proofs.jumping.Ends.{ends_led_by}
use Rattle.pass_frames_proof.proofs.jumping.Fronts.{front_led_by}
use Rattle.pass_frames_proof.proofs.jumping.Pairs.{AreAllSet, all_set}
use Rattle.pass_frames_proof.proofs.jumping.Places.{front_there}
use Rattle.pass_frames_steps.proofs.lined.Lines.{each_between, framed_does, line_leads}
use Rattle.pass_frames_steps.proofs.lines.Cells.{other_block}
use Rattle.pass_frames_steps.proofs.stepping.After.{cells_turned, past_value, wheres_there, wheres_turned}
use Rattle.pass_frames_steps.proofs.stepping.May.{coroutine_values, not_returned, own_blocks}
use Rattle.pass_frames_steps.proofs.stepping.Names.{cell_is_name, named_written, slots_new, edged_named}
use Rattle.pass_frames_steps.proofs.stepping.Operands.{asked}
use Rattle.pass_frames_steps.proofs.stepping.Rest.{LeavesRest, below_apart, instance_kept, own_slots, rest_related, stood_apart}
use Rattle.pass_frames_steps.proofs.stepping.Same.{rest_left}
use Rattle.pass_frames_steps.proofs.stepping.Stands.{cost_is, made_of, renewed_does, top_is, values_of}
use Rattle.pass_frames_steps.proofs.suspending.Given.{edged_framed}
use Rattle.pass_frames_steps.specs.Code.{end_code, end_term, front_code, last_state}
use Rattle.pass_frames_steps.specs.Costs.{jump_cost, whole}
use Rattle.pass_frames_steps.specs.Edges.{AreCellsFit, EndsLed, FrontsInPlace, FrontsLed, IsOnFront, PhisGiven, block_to, entered_phis, entered_work}
use Rattle.pass_frames_steps.specs.Followed.{IsFollowed, IsOn}
use Rattle.pass_frames_steps.specs.Framings.{IsFraming}
use Rattle.pass_frames_steps.specs.FromEdges.{IsAtReturn, IsFrontDone, IsNoOwnCell, IsOnCells, IsOutOfEdge, address_name, again_name}
use Rattle.pass_frames_steps.specs.Jumps.{MayJumpBy}
use Rattle.pass_frames_steps.specs.Led.{SparesBlocks}
use Rattle.pass_frames_proof.proofs.leaving.Branches.{none_left}
use Rattle.pass_frames_steps.specs.Leaving.{further}
use Rattle.pass_frames_steps.specs.Lined.{GivesNone, lined}
use Rattle.pass_frames_steps.specs.Lines.{at_work}
use Rattle.pass_frames_steps.specs.Meaning.{action_at, coroutine_cost, other_cost, step_cost}
use Rattle.pass_frames_steps.specs.Passes.{block_at}
use Rattle.pass_frames_steps.specs.Places.{Framing, copies, edged, framed, instrs_at, named, offsets, place, plan, written, place_by, fetched}
use Rattle.pass_frames_steps.specs.Related.{AreActivations, AreBuiltOf, AreCellsRight, AreCoroutines, AreNamed, AreWheresRight, Building, HasCells, IsCellName, IsFreeOf, instance_in, is_coroutine, point_of, slots_below, top_place}
use Rattle.pass_frames_steps.specs.Stepping.{AreGiven}
use Rattle.pass_frames_steps.specs.pass_proofs.addresses.rules.Addresses.{lies_in_frame}
use Rattle.pass_frames_steps.specs.pass_renewed_proof.Renewed.{RenewedGiven, renewed_step}
use Rattle.pass_frames_steps.proofs.run_agreement.Runs.{iterate-add}
use Rattle.pass_frames_steps.specs.run_agreement.Machines.{IsFine, iterate}
use Rattle.pass_frames_steps.specs.run_framed.Framed.{frame_rights, framed_context, framed_step}
use Rattle.pass_frames_steps.specs.run_laws.access.Lines.{Holds, StandAt}
use Rattle.pass_frames_steps.specs.run_laws.changed.Changed.{Each}
use Rattle.pass_frames_steps.specs.run_laws.memory.Pointers.{IsValue, home_of}
use Rattle.pass_frames_steps.specs.run_memory.Memory.{Rights}
use Rattle.pass_frames_steps.specs.run_memory.declared.block.Byte.{Byte}
use Rattle.pass_frames_steps.specs.run_memory.declared.pointer.Value.{Value}
use Rattle.pass_frames_steps.specs.run_source.Source.{branch_leaving, context_of, enter_block, go_to, left_windows}
use Rattle.pass_frames_steps.specs.run_source.State.{function_of, or_undefined, own_facts, work_of}
use Rattle.pass_frames_steps.specs.run_source.declared.state.Activation.{Activation}
use Rattle.pass_frames_steps.specs.run_source.declared.state.Instance.{Instance}
use Rattle.pass_frames_steps.specs.run_source.declared.state.State.{State}
use Rattle.pass_frames_steps.specs.run_source_tables.Given.{Given}
use Rattle.pass_frames_steps.specs.run_step.Step.{AtTerm, Context, Fetched, GoTo, Work, action_of, fetch, fetch_in, fetch_or, label_of, phi_values, phis_of, values_in, with_all}
use Rattle.pass_frames_steps.specs.run_step.Values.{Env, value_in}
use Rattle.pass_frames_steps.specs.run_step.declared.world.Slot.{Slot}
use Rattle.pass_frames_steps.specs.run_step.declared.world.World.{World}
use Rattle.pass_frames_steps.proofs.stepping.After.{right_there as cells_there}
use Rattle.pass_frames_steps.specs.run_source.State.{point_of as state_point}

goes_by : (g : Given) (s : State) (label : ℕ)
    → filter (leaves (state_point s) (entry_point (function_of g s) label)) (own_facts g s).windows ≡ []
    → go_to g s label ≡ Ok (enter_block g s label)
goes_by g s label none = ap (λ (ws : List Window). branch_leaving g s label ws) none

pub first_done : (b : Building) (g : RenewedGiven) → AreGiven b g → (s t : State) (r : AreBuiltOf b s t)
    (label order : ℕ) → IsAtReturn b s label order
    → IsFrontDone b s t r.homes r.hides (front_code (b.framing s.top.func) s.top.block)
first_done b g given s t r label order h =
    subst (IsFrontDone b s t r.homes r.hides) (sym (front_is_line b g given s t r label order h))
    (front_done b g given s t r label order h)

module _ (b : Building) (g : RenewedGiven) (given : AreGiven b g) (s t : State) (r : AreBuiltOf b s t)
    (label order : ℕ)
    (h : IsAtReturn b s label order) (o : IsOutOfEdge b s label)
    (may : (done : IsFrontDone b s t r.homes r.hides (front_code (b.framing s.top.func) s.top.block))
    → MayJumpBy b g s (lined t (length (front_code (b.framing s.top.func) s.top.block)) done.work) r.homes label)
    (phis : (done : IsFrontDone b s t r.homes r.hides (front_code (b.framing s.top.func) s.top.block))
    → (ends : EndsLed b g s (lined t (length (front_code (b.framing s.top.func) s.top.block)) done.work) r.homes label
    (end_code (b.framing s.top.func) s.top.block (last_state (b.framing s.top.func) s.top.block))
    (end_term (b.framing s.top.func) (last_state (b.framing s.top.func) s.top.block)
    (block_at (edged (b.framing s.top.func)) s.top.block).term))
    → PhisGiven b g s (lined t (length (front_code (b.framing s.top.func) s.top.block)) done.work) r.homes label
    ends.work) (fine : IsFine (renewed_step g s).outcome)
    (stays_in : left_windows b.given.given (further (further t (length (front_code (b.framing s.top.func) s.top.block)))
    (length (end_code (b.framing s.top.func) s.top.block (last_state (b.framing s.top.func) s.top.block)))) label
    ≡ []) where
  abbrev x : Framing
  x = b.framing s.top.func

  abbrev R : Rights
  R = frame_rights b.given t.instances

  abbrev d : Context
  d = framed_context b.given t

  is : IsFraming x
  is = given.framings s.top.func h.coroutine

  abbrev k : ℕ
  k = s.top.block

  abbrev k' : ℕ
  k' = block_to x label

  abbrev first : List Instr
  first = front_code x k

  done : IsFrontDone b s t r.homes r.hides first
  done = first_done b g given s t r label order h

  first_gives : Each (GivesNone b.given.given.code) first
  first_gives =
      subst (Each (GivesNone b.given.given.code)) (sym (front_is_line b g given s t r label order h))
      (line_gives x k b.given.given.code (again_name x k) (address_name x k) (copies x).slots
      (row_at (plan x).rows (Some order)))

  old : AreCoroutines x r.homes R t s.top t.top
  old = coroutine_values b r.homes R t s.top t.top (is_coroutine b s.top.func) h.coroutine r.top.values

  free : (slot : Slot) → Contains t.top.slots slot → IsCellName x slot.alloca
      → IsFreeOf r.homes r.hides s.world.memory slot.block
  free slot listed name =
      r.cells.0 (subst (λ (q : ℕ). is_coroutine b q ≡ true) (sym r.top.func) h.coroutine) slot listed
      (subst (λ (q : ℕ). IsCellName (b.framing q) slot.alloca) (sym r.top.func) name)

  -- ---- where both runs stand

  framed_is : function_of b.given.given t ≡ framed x
  framed_is =
      (λ j. function_at (given.code j) (r.top.func j)) ∙ (given.built.coroutines s.top.func h.coroutine).is

  edged_is : function_of g.given s ≡ edged x
  edged_is = given.coroutines s.top.func h.coroutine

  running : t.outcome ≡ Outcome.Running
  running = r.outcome ∙ h.runs

  at_place : point_of t.top ≡ record { block = k; at = 0 }
  at_place =
      r.top.place ∙ top_is b s.top h.coroutine h.mode
      ∙ ap (λ (q : Bool). record { block = k; at = place_by x (point_of s.top) q (k == 0) }) h.returned

  block_is : t.top.block ≡ k
  block_is = ap (λ (p : Point). p.block) at_place

  at_is : t.top.at ≡ 0
  at_is = ap (λ (p : Point). p.at) at_place

  inside : ReturnsInPlace x k
  inside = return_there x is k h.later h.here h.no_instrs

  first_stand : StandAt (function_of b.given.given t) t.top.block t.top.at first
  first_stand =
      subst (λ (f : Function). StandAt f t.top.block t.top.at first) (sym framed_is)
      (subst (λ (p : Point). StandAt (framed x) p.block p.at first) (sym at_place) inside.front)

  abbrev On : Work → Type 0
  On u = IsOnCells x t.top (work_of t) u

  first_leads : iterate (framed_step b.given) (length first) t ≡ lined t (length first) done.work
  first_leads = line_leads b.given t On first done.work running first_stand first_gives done.runs

  abbrev t1 : State
  t1 = lined t (length first) done.work

  -- ---- the end of the block

  abbrev line : List Instr
  line = end_code x k (last_state x k)

  abbrev term : Terminator
  term = end_term x (last_state x k) (block_at (edged x) k).term

  ends : EndsLed b g s t1 r.homes label line term
  ends = ends_led_by b g s t1 r.homes is label (may done)

  at_one : t.top.at + length first ≡ length first
  at_one = let e = at_is in omega (arith, e)

  stand : StandAt (function_of b.given.given t1) t1.top.block t1.top.at line
  stand =
      subst (λ (f : Function). StandAt f t.top.block (t.top.at + length first) line) (sym framed_is)
      (subst (λ (q : ℕ). StandAt (framed x) q (t.top.at + length first) line) (sym block_is)
      (subst (λ (q : ℕ). StandAt (framed x) k q line) (sym at_one) inside.stand))

  abbrev Still : Work → Type 0
  Still u = u.world ≡ t1.world

  leads : iterate (framed_step b.given) (length line) t1 ≡ lined t1 (length line) ends.work
  leads = line_leads b.given t1 Still line ends.work running stand ends.gives ends.runs

  abbrev t2 : State
  t2 = lined t1 (length line) ends.work

  at_term : fetch (function_of b.given.given t) t.top.block (t.top.at + length first + length line) ≡ AtTerm term
  at_term =
      (λ j. fetch (framed_is j) (block_is j) (at_one j + length line)) ∙ inside.term

  abbrev y : Work
  y = entered_work b t1 x k label ends.work

  abbrev t3 : State
  t3 = record t { world = ends.work.world; top = record t.top { block = k'; at = 0; values = y.values } }

  entered : framed_step b.given t2 ≡ t3
  entered =
      framed_does b.given t2 (AtTerm term) (GoTo label) running at_term refl ends.goes
      ∙ ap (or_undefined b.given.given t2) (goes_by b.given.given t2 label stays_in)
      ∙ ap (λ (f : Function). record t {
        world = ends.work.world;
        top = record t.top {
          block = position_of f label;
          at = 0;
          values = values_in b.given.given.code (slice_get f.blocks (position_of f label))
              (label_of (slice_get f.blocks t.top.block)) ends.work.values;
        };
      }) framed_is
      ∙ ap (λ (n : ℕ). record t {
        world = ends.work.world;
        top = record t.top {
          block = n;
          at = 0;
          values = values_in b.given.given.code (slice_get (framed x).blocks n)
              (label_of (slice_get (framed x).blocks t.top.block)) ends.work.values;
        };
      }) ends.block
      ∙ ap (λ (n : ℕ). record t {
        world = ends.work.world;
        top = record t.top {
          block = k';
          at = 0;
          values = values_in b.given.given.code (slice_get (framed x).blocks k')
              (label_of (slice_get (framed x).blocks n)) ends.work.values;
        };
      }) block_is

  -- ---- the front of the next block

  abbrev front : List Instr
  front = stored_phis (plan x) (block_at (fetched x) k').phis

  right1 : AreCellsRight x r.homes R done.work.world.memory s.top.values t1.top
  right1 =
      cells_turned R done.work.world.memory
      (at_work t.top done.work) t1.top x r.homes s.top.values refl refl done.right

  fit : AreCellsFit b s t1 r.homes r.hides
  fit = record {
    right = right1;
    own = own_blocks t r.once;
    free = free;
    world = done.over;
    enough =
        let a = h.room in let e = old.names.room in let f = edged_framed x in let q = done.room in
        omega (arith, a, e, f, q);
  }

  led : FrontsLed b g s t1 r.homes r.hides label ends.work front
  led = front_led_by b g s t1 r.homes r.hides is fit label line term ends (phis done ends)

  abbrev z : Work
  z = led.work

  fronts : FrontsInPlace x k' front
  fronts = front_there x is k' o.there o.ordinary o.plain

  front_stand : StandAt (function_of b.given.given t3) k' 0 front
  front_stand = subst (λ (f : Function). StandAt f k' 0 front) (sym framed_is) fronts.stand

  abbrev OnFront : Work → Type 0
  OnFront u = IsOnFront x t1 u

  front_leads : iterate (framed_step b.given) (length front) t3 ≡ lined t3 (length front) z
  front_leads = line_leads b.given t3 OnFront front z running front_stand led.gives led.runs

  abbrev env : Env
  env = with_all s.top.values (entered_phis g s x label)

  abbrev a' : Activation
  a' = record s.top { block = k'; at = 0; values = env }

  abbrev c' : Activation
  c' = record t.top { block = k'; at = length front; values = z.values }

  abbrev t' : State
  t' = record t { world = z.world; top = c' }

  abbrev rest : ℕ
  rest = length line + 1 + length front

  to_front : iterate (framed_step b.given) (length line + 1) t1 ≡ t3
  to_front = iterate-add (framed_step b.given) (length line) 1 t1 ∙ ap (framed_step b.given) leads ∙ entered

  rest_leads : iterate (framed_step b.given) rest t1 ≡ t'
  rest_leads =
      iterate-add (framed_step b.given) (length line + 1) (length front) t1
      ∙ ap (iterate (framed_step b.given) (length front)) to_front ∙ front_leads
      ∙ ap (λ (n : ℕ). record t { world = z.world; top = record t.top { block = k'; at = n; values = z.values } })
      (from_none (length front))
    where
      from_none : (n : ℕ) → 0 + n ≡ n
      from_none n = omega arith

  all_leads : iterate (framed_step b.given) (length first + rest) t ≡ t'
  all_leads =
      iterate-add (framed_step b.given) (length first) rest t
      ∙ ap (iterate (framed_step b.given) rest) first_leads ∙ rest_leads

  -- ---- the first run

  fetched_jump : fetch (function_of g.given s) k s.top.at ≡ AtTerm (Terminator.Jump label)
  fetched_jump =
      ap (λ (f : Function). fetch f k s.top.at) edged_is
      ∙ ap (λ (q : Option Block). fetch_in q s.top.at) h.here
      ∙ ap (λ (q : List Instr). fetch_or (slice_get q s.top.at) (s.top.at == length q) (block_at (edged x) k).term)
      h.no_instrs
      ∙ (λ j. fetch_or (slice_get [] (h.first j)) (h.first j == 0) (h.jumps j))

  goes : renewed_step g s ≡ or_undefined g.given s (go_to g.given s label)
  goes = renewed_does g s (AtTerm (Terminator.Jump label)) (GoTo label) h.runs fetched_jump refl refl

  -- its instance is Running, so a window would be left in no step that is defined
  source_stays : left_windows g.given s label ≡ []
  source_stays = on (go_to g.given s label) refl (subst (λ (z : State). IsFine z.outcome) goes fine)
    where
      on : (o : Result State Cause) → go_to g.given s label ≡ o → IsFine (or_undefined g.given s o).outcome
          → left_windows g.given s label ≡ []
      on (Err cause) e q = absurd q
      on (Ok after) e q =
          none_left g.given s after label h.instance.number h.instance.instance h.instance.own h.instance.there
          h.instance.running e

  source_is : renewed_step g s ≡ record s { top = a' }
  source_is =
      goes ∙ ap (or_undefined g.given s) (goes_by g.given s label source_stays)
      ∙ ap (λ (f : Function). record s {
        top = record s.top {
          block = position_of f label;
          at = 0;
          values = values_in g.given.code (slice_get f.blocks (position_of f label))
              (label_of (slice_get f.blocks s.top.block)) s.top.values;
        };
      }) edged_is

  -- ---- what is touched: cells alone

  abbrev Touched : ℕ → Type 0
  Touched n = (slot : Slot) × Contains t.top.slots slot × IsCellName x slot.alloca × (slot.block ≡ n)

  stood : (n : ℕ) → n < length s.world.memory → (home_of r.homes n).is_seen ≡ true
      → Touched (home_of r.homes n).block → ⊥
  stood n lt seen q = stood_apart b s t r q.0.block n (free q.0 q.1 q.2) lt seen (sym q.3)

  others_apart : (n : ℕ) → IsListed n (map (λ (slot : Slot). slot.block) (slots_below t.below)) → Touched n → ⊥
  others_apart n l q =
      below_apart b s t r q.0 q.1
      (subst (λ (u : ℕ). IsListed u (map (λ (slot : Slot). slot.block) (slots_below t.below))) (sym q.3) l)

  abbrev Spares : World → Type 0
  Spares u = (e : ℕ) → IsNoOwnCell x t.top e → slice_get u.memory e ≡ slice_get t.world.memory e

  left_by : (u : World) → Spares u → LeavesRest b s t r s.world u
  left_by u spares =
      rest_left b s t r s.world u Touched given.framings refl
      (λ e none. spares e (λ slot listed name same. none (slot, listed, name, same))) stood others_apart

  shown_there : (u : World) (c : Activation) → u.events ≡ t.world.events → Spares u
      → IsOn b s (record t { world = u; top = c })
  shown_there u c events spares = record {
    running = running;
    shown = record {
      homes = r.homes;
      events = events ∙ events_same b s t r;
      outcome = r.outcome;
      instances = λ j p there suspended.
          let q = other_instance b s t r j p there in
          (q.0, q.1, instance_kept b s t r s.world u (left_by u spares) c t.below j p q.0 there q.2);
    };
  }

  -- behind the first front
  behind_first : (u : World) → SparesBlocks x t1.top done.work.world.memory u.memory → Spares u
  behind_first u spares e none =
      spares.same e (λ slot listed of same. none slot listed (cell_is_name x slot.alloca of) same)
      ∙ done.last.spares e none

  z_spares : Spares z.world
  z_spares = behind_first z.world led.last.spares

  -- ---- the activation on top

  all : AreAllSet r.homes (length (edged x).names) s.top.values ends.work.values env y.values
  all =
      all_set r.homes (length (edged x).names) s.top.values ends.work.values (entered_phis g s x label)
      (phi_values b.given.given.code ends.work.values (label_of (slice_get (framed x).blocks k))
      (phis_of (slice_get (framed x).blocks k')))
      (let a = fit.enough in let e = ends.room in omega (arith, a, e)) ends.phis

  same_values : (u : ℕ) → value_in z.values u ≡ value_in y.values u
  same_values u = ap (λ (v : Env). value_in v u) led.values

  edged_low : length (edged x).names ≤ length (named x).names
  edged_low = edged_named x

  names : AreNamed x r.homes a' c'
  names = record {
    each = λ u asks unkept outside. by_name u unkept outside (cases_lt u (length (named x).names));
    room = ap (λ (v : Env). length v) led.values ∙ all.target ∙ ends.room ∙ done.room ∙ old.names.room;
  }
    where
      by_name : (u : ℕ) → entry (plan x).places u ≡ None → lies_in_frame (offsets x) u ≡ false
          → (u < length (named x).names) ⊎ (length (named x).names ≤ u)
          → IsValue r.homes (value_in env u) (value_in z.values u)
      by_name u unkept outside (inl lt) =
          subst (IsValue r.homes (value_in env u)) (sym (same_values u))
          (all.each u
          (subst (IsValue r.homes (value_in s.top.values u)) (sym (ends.low u lt ∙ done.low u lt))
          (old.names.each u (asked x s.top s.top.mode u h.mode) unkept outside)))
      by_name u unkept outside (inr le) =
          subst (λ (v : Value). IsValue r.homes v (value_in z.values u))
          (sym (past_value env u
          (let p = all.source in let q = h.room in let f = edged_low in omega (arith, p, q, f, le)))) tt

  right : AreCellsRight x r.homes R z.world.memory env c'
  right = cells_turned R z.world.memory (at_work t1.top z) c' x r.homes env refl refl led.right

  abbrev own : Option Instance
  own = instance_in t.instances t.top.instance

  -- cells of addresses lie in other blocks than those of values
  wheres_here : AreWheresRight x R z.world.memory own (at_work t.top done.work)
  wheres_here = record {
    each = λ e listed.
        let q = done.places.each e listed in record {
          block = q.block;
          address = q.address;
          own = q.own;
          bytes = q.bytes;
          sized = q.sized;
          holds = stays e listed q.block q.own 0 (value_bytes ptr) q.bytes q.holds;
          has = q.has;
        };
  }
    where
      stays : (e : EarlySlot) → Contains (copies x).slots e → (block : ℕ)
          → Contains t.top.slots (record { alloca = e.cell; block = block }) → (at most : ℕ) (bytes : List Byte)
          → Holds R done.work.world.memory block at most bytes → Holds R z.world.memory block at most bytes
      stays e listed block mine at most bytes q = record {
        block = q.block;
        there =
            led.last.spares.same block
            (λ slot l of same. other_block t.top slot.alloca e.cell slot.block block (own_blocks t r.once) l mine
            (λ eq. let lt : slot.alloca < length (named x).names = of.1 in
            let high : length (written x).names ≤ e.cell = (slots_new x e listed).1 in
            let long : length (named x).names ≤ length (written x).names = named_written x in
            omega (arith, lt, high, long, eq)) same)
            ∙ q.there;
        live = q.live;
        writable = q.writable;
        whole = q.whole;
        within = q.within;
        holds = q.holds;
        unclosed = q.unclosed;
        aligned = q.aligned;
      }

  high_value : (u : ℕ) → length (written x).names ≤ u → value_in ends.work.values u ≡ value_in done.work.values u
      → value_in z.values u ≡ value_in done.work.values u
  high_value u le same =
      same_values u
      ∙ all.high u (let f = edged_low in let long : length (named x).names ≤ length (written x).names =
      named_written x in omega (arith, f, long, le)) ∙ same

  wheres : AreWheresRight x R z.world.memory own c'
  wheres =
      wheres_turned R z.world.memory (at_work t.top done.work) c' x own refl
      (λ e listed. (
        high_value e.cell (slots_new x e listed).1 (ends.wheres e listed).0,
        high_value e.temporary (slots_new x e listed).0 (ends.wheres e listed).1,
      )) wheres_here

  after : AreCoroutines x r.homes R t' a' c'
  after = record {
    names = names;
    cells = subst (λ (q : Option ℕ). HasCells x r.homes R z.world.memory own a' c' q)
        (sym (not_returned x a' s.top.mode h.mode o.ordinary)) (right, wheres);
    made = made_of x R z.world.memory c' s.top.mode h.mode (
      cells_there x is r.homes R z.world.memory env c' right,
      wheres_there x R z.world.memory c' own wheres,
    );
  }

  top_there : AreActivations b r.homes r.hides t' (top_place b) a' c'
  top_there = record {
    func = r.top.func;
    place = ap (λ (n : ℕ). record { block = k'; at = n }) (sym fronts.place) ∙ sym (top_is b a' h.coroutine h.mode);
    result = r.top.result;
    mode = r.top.mode;
    instance = r.top.instance;
    has_left = r.top.has_left;
    values = values_of b r.homes R t' a' c' (is_coroutine b s.top.func) h.coroutine after;
    slots = own_slots b s t r s.world z.world (left_by z.world z_spares) k' 0 k' (length front) env z.values;
  }

  related : AreBuiltOf b (record s { top = a' }) t'
  related =
      rest_related b s t r s.world z.world (left_by z.world z_spares) k' 0 k' (length front) env z.values led.over
      (λ q first at. absurd (o.later at)) top_there

  -- ---- what is shown on the way

  shown_first : (j : ℕ) → j < length first → IsOn b s (iterate (framed_step b.given) j t)
  shown_first j lt =
      let q = each_between b.given t On first done.work running first_stand first_gives done.runs j lt in
      subst (IsOn b s) (sym q.1.0) (shown_there q.0.world (lined t j q.0).top q.1.1.events q.1.1.spares)

  same_spares : (u : World) → u ≡ done.work.world → Spares u
  same_spares u e = subst Spares (sym e) done.last.spares

  shown_line : (j : ℕ) → j < length line → IsOn b s (iterate (framed_step b.given) j t1)
  shown_line j lt =
      let q = each_between b.given t1 Still line ends.work running stand ends.gives ends.runs j lt in
      subst (IsOn b s) (sym q.1.0)
      (shown_there q.0.world (lined t1 j q.0).top (ap (λ (u : World). u.events) q.1.1 ∙ done.last.events)
      (same_spares q.0.world q.1.1))

  shown_end : IsOn b s (iterate (framed_step b.given) (length line) t1)
  shown_end =
      subst (IsOn b s) (sym leads)
      (shown_there ends.work.world t2.top (ap (λ (u : World). u.events) ends.world ∙ done.last.events)
      (same_spares ends.work.world ends.world))

  shown_front : (j : ℕ) → j < length front → IsOn b s (iterate (framed_step b.given) (length line + 1 + j) t1)
  shown_front j lt =
      let q = each_between b.given t3 OnFront front z running front_stand led.gives led.runs j lt in
      subst (IsOn b s)
      (sym (iterate-add (framed_step b.given) (length line + 1) j t1
      ∙ ap (iterate (framed_step b.given) j) to_front ∙ q.1.0))
      (shown_there q.0.world (lined t3 j q.0).top (q.1.1.events ∙ done.last.events) (behind_first q.0.world q.1.1.spares))

  shown_rest : (i : ℕ) → i < rest → IsOn b s (iterate (framed_step b.given) i t1)
  shown_rest i lt = ⊎_elim (λ less. shown_line i less) (λ le. later le (cases_lt i (length line + 1)))
      (cases_lt i (length line))
    where
      later : length line ≤ i → (i < length line + 1) ⊎ (length line + 1 ≤ i)
          → IsOn b s (iterate (framed_step b.given) i t1)
      later le (inl less) =
          let same : length line ≡ i = omega (arith, less, le) in
          subst (λ (n : ℕ). IsOn b s (iterate (framed_step b.given) n t1)) same shown_end
      later le (inr more) =
          let same : length line + 1 + (i - (length line + 1)) ≡ i = omega (arith, more) in
          subst (λ (n : ℕ). IsOn b s (iterate (framed_step b.given) n t1)) same
          (shown_front (i - (length line + 1)) (omega (arith, more, lt)))

  on_way : (i : ℕ) → i < length first + rest → IsOn b s (iterate (framed_step b.given) i t)
  on_way i lt = ⊎_elim (λ less. shown_first i less)
      (λ le.
      let same : length first + (i - length first) ≡ i = omega (arith, le) in
      subst (λ (n : ℕ). IsOn b s (iterate (framed_step b.given) n t)) same
      (subst (IsOn b s)
      (sym (iterate-add (framed_step b.given) (length first) (i - length first) t
      ∙ ap (iterate (framed_step b.given) (i - length first)) first_leads))
      (shown_rest (i - length first) (omega (arith, le, lt)))))
      (cases_lt i (length first))

  -- ---- the account

  cost : step_cost b g s s.top.mode ≡ length first + rest
  cost =
      cost_is b g s s.top.mode h.mode
      ∙ ap (λ (q : Bool). if q then coroutine_cost b g s (action_at g s) else other_cost b g s (action_at g s))
      h.coroutine
      ∙ ap (λ (f : Fetched). coroutine_cost b g s (action_of (context_of g.given s) (work_of s) f)) fetched_jump
      ∙ ap (λ (f : Function). jump_cost x k (position_of f label)) edged_is
      ∙ ap (λ (q : Bool). whole x k - place_by x (record { block = k; at = length (instrs_at x k) }) q (k == 0)
      + (place x (record { block = k'; at = 0 })).at) h.returned
      ∙ (λ i. inside.whole_is i - 0 + fronts.place i)
      ∙ sums (length first) (length line) (length front)
    where
      sums : (p m n : ℕ) → (p + m + 1) - 0 + n ≡ p + (m + 1 + n)
      sums p m n = omega arith

  pub edge_followed : IsFollowed b g s t
  edge_followed = record {
    steps = length first + rest;
    few = subst (λ (n : ℕ). length first + rest ≤ n) (sym cost) (same (length first + rest));
    goes_on = inl (omega arith);
    passes = λ i pos lt. inl (on_way i lt);
    related = subst (λ (p : State × State). AreBuiltOf b p.0 p.1) (λ i. (sym source_is i, sym all_leads i)) related;
  }
    where
      same : (n : ℕ) → n ≤ n
      same n = omega arith
