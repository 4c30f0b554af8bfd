-- An activation of a coroutine at an instruction, in related states: its values, cells and place, and what its operands
-- are fetched to.
use Rattle.std.proofs.Common.{◌≡◌, ◌+◌, ◌-◌, ◌*◌, ◌<◌, ◌≤◌, ◌∙◌, if◌then◌else◌, Bool, List, Option, ap, arith, length, subst, sym, true, ℕ}
use Rattle.std.specs.List.{Contains}
use Rattle.pass_frames_code.specs.ir_base.declared.outcome.Outcome.{Outcome}
use Rattle.pass_frames_code.proofs.ir_laws.facts.Members.{each_all, each_turns}
use Rattle.pass_frames_code.specs.ir_model.Names.{declaration_named, function_at, function_named}
use Rattle.pass_frames_code.specs.ir_model.Ty.{Ty}
use Rattle.pass_frames_code.specs.ir_model.declared.instr.Instr.{Instr}
use Rattle.pass_frames_code.specs.ir_model.declared.module.Function.{Function}
use Rattle.pass_frames_code.specs.ir_model.declared.module.Module.{Module}
use Rattle.pass_frames_code.specs.ir_model.declared.operand.Operand.{Operand}
use Rattle.pass_frames_code.specs.ir_parts.Contents.{instr_operands}
use Rattle.pass_frames_code.specs.ir_paths.declared.point.Point.{Point}
use Rattle.pass_frames_code.specs.pass_cells.Cells.{fetches_of}
use Rattle.pass_frames_code.specs.pass_fetch.Fetching.{next_after_all}
use Rattle.pass_frames_code.specs.pass_fetch.Instrs.{with_fetched}
use Rattle.pass_frames_code.specs.pass_fetch.declared.fetch.Fetch.{Fetch}
use Rattle.pass_frames_code.proofs.code.Instrs.{instr_code}
use Rattle.pass_frames_code.proofs.code.Left.{Far, far_named, far_written, parts_left}
use Rattle.pass_frames_code.proofs.code.Names.{Count, First, far_left}
use Rattle.pass_frames_code.proofs.distances.Sums.{more_below}
use Rattle.pass_frames_steps.proofs.here.Line.{line_is, line_no_alloca}
use Rattle.pass_frames_code.proofs.led.Front.{IsShownLed, led_shown}
use Rattle.pass_frames_code.proofs.lines.Loads.{can_load}
use Rattle.pass_frames_code.proofs.stepping.Codes.{code_stands, instr_there}
use Rattle.pass_frames_code.proofs.stepping.May.{coroutine_values, not_returned}
use Rattle.pass_frames_code.proofs.stepping.Names.{named_written}
use Rattle.pass_frames_code.proofs.stepping.Operands.{AreSameNames, can_more, other_stands, seen_one, slot_address}
use Rattle.pass_frames_code.proofs.stepping.Stands.{cost_is, top_is}
use Rattle.pass_frames_code.specs.Code.{address_state, load_name, slot_table}
use Rattle.pass_frames_code.specs.Costs.{instr_cost}
use Rattle.pass_frames_code.specs.Distances.{IsBelow}
use Rattle.pass_frames_code.specs.Fetched.{CanFetch}
use Rattle.pass_frames_code.specs.Framings.{IsFraming}
use Rattle.pass_frames_code.specs.Here.{IsHere, IsOnLine}
use Rattle.pass_frames_code.specs.Layers.{becomes}
use Rattle.pass_frames_code.specs.Led.{IsTwiceFor, MayBeLed}
use Rattle.pass_frames_code.specs.Lines.{IsCellOf, at_work}
use Rattle.pass_frames_code.specs.Loaded.{loaded_value}
use Rattle.pass_frames_code.specs.Meaning.{action_at, coroutine_cost, other_cost, step_cost}
use Rattle.pass_frames_code.specs.Places.{Framing, Placed, edged, framed, named, place, placed_layer, plan, written}
use Rattle.pass_frames_code.specs.Related.{AreBuiltOf, AreCellsRight, AreCoroutines, AreWheresRight, Building, HasCells, IsCellName, IsFreeOf, instance_in, is_coroutine, point_of}
use Rattle.pass_frames_code.specs.Stepping.{AreGiven, IsPlacedOperand, StandsInPlace, placed_front, placed_instr, placed_line, state_in}
use Rattle.pass_frames_code.proofs.pass_proofs.fetch.rules.Puts.{fetch_rises}
use Rattle.pass_frames_code.specs.pass_renewed_proof.Renewed.{RenewedGiven}
use Rattle.pass_frames_code.specs.run_framed.Framed.{frame_rights, framed_context}
use Rattle.pass_frames_code.specs.run_laws.access.Lines.{StandAt}
use Rattle.pass_frames_code.specs.run_laws.memory.Pointers.{IsValue}
use Rattle.pass_frames_code.specs.run_memory.Memory.{Rights}
use Rattle.pass_frames_code.specs.run_memory.declared.pointer.Value.{Value}
use Rattle.pass_frames_code.specs.run_source.Source.{context_of}
use Rattle.pass_frames_code.specs.run_source.State.{function_of, work_of}
use Rattle.pass_frames_code.specs.run_source.declared.state.State.{State}
use Rattle.pass_frames_code.specs.run_step.Step.{Action, AtInstr, Context, action_of, fetch, instr_action}
use Rattle.pass_frames_code.specs.run_step.Values.{operand_value}
use Rattle.pass_frames_code.specs.run_step.declared.world.Slot.{Slot}

-- ---- by the activation

module _ (b : Building) (s t : State) (r : AreBuiltOf b s t)
    (framings : (func : ℕ) → is_coroutine b func ≡ true → IsFraming (b.framing func)) (i : Instr)
    (h : IsOnLine b s.top i) where
  abbrev pub x : Framing
  x = b.framing s.top.func

  abbrev pub place_state : Placed
  place_state = state_in x s.top.block s.top.at

  abbrev pub n : ℕ
  n = load_name place_state

  abbrev pub m : ℕ
  m = (address_state place_state).0

  abbrev pub R : Rights
  R = frame_rights b.given t.instances

  pub is : IsFraming x
  is = framings s.top.func h.coroutine

  pub values : AreCoroutines x r.homes R t s.top t.top
  values = coroutine_values b r.homes R t s.top t.top (is_coroutine b s.top.func) h.coroutine r.top.values

  pub cells : AreCellsRight x r.homes R t.world.memory s.top.values t.top
      × AreWheresRight x R t.world.memory (instance_in t.instances t.top.instance) t.top
  cells =
      subst (λ (o : Option ℕ). HasCells x r.homes R t.world.memory
      (instance_in t.instances t.top.instance) s.top t.top o)
      (not_returned x s.top s.top.mode h.mode h.unreturned) values.cells

  -- ---- names

  pub low : length (edged x).names ≤ n
  low =
      let far : Far x is ≤ length (named x).names = far_named x is in
      let e : length (named x).names ≤ n = h.order.low in
      omega (arith, far, e)

  pub written_high : length (edged x).names ≤ length (written x).names
  written_high = let far : Far x is ≤ length (written x).names = far_written x is in omega (arith, far)

  pub cell_name : (u : ℕ) → IsCellOf x u → IsCellName x u
  cell_name u of = record {
    new = of.0;
    no_temporary = λ e listed same.
        let lt : u < length (named x).names = of.1 in
        let high : length (written x).names ≤ e.temporary = (h.order.slots e listed).0.0 in
        let long : length (named x).names ≤ length (written x).names = named_written x in
        absurd (omega (arith, lt, high, long, same));
  }

  pub free : (slot : Slot) → Contains t.top.slots slot → IsCellName x slot.alloca
      → IsFreeOf r.homes r.hides s.world.memory slot.block
  free slot listed name =
      r.cells.0 (subst (λ (k : ℕ). is_coroutine b k ≡ true) (sym r.top.func) h.coroutine) slot listed
      (subst (λ (k : ℕ). IsCellName (b.framing k) slot.alloca) (sym r.top.func) name)

  -- ---- its place

  abbrev here : Point
  here = record { block = s.top.block; at = s.top.at }

  pub at_place : point_of t.top ≡ place x here
  at_place = r.top.place ∙ top_is b s.top h.coroutine h.mode

  pub block_is : t.top.block ≡ s.top.block
  block_is = ap (λ (p : Point). p.block) at_place

  pub at_is : t.top.at ≡ (place x here).at
  at_is = ap (λ (p : Point). p.at) at_place

-- ---- by the state

module _ (b : Building) (g : RenewedGiven) (given : AreGiven b g) (s t : State) (r : AreBuiltOf b s t) (i : Instr)
    (h : IsHere b s i) where
  abbrev x2 : Framing
  x2 = b.framing s.top.func

  abbrev st : Placed
  st = state_in x2 s.top.block s.top.at

  abbrev c : Context
  c = context_of g.given s

  abbrev d : Context
  d = framed_context b.given t

  is2 : IsFraming x2
  is2 = is b s t r given.framings i h.on

  names2 : AreCoroutines x2 r.homes (frame_rights b.given t.instances) t s.top t.top
  names2 = values b s t r given.framings i h.on

  low2 : length (edged x2).names ≤ load_name st
  low2 = low b s t r given.framings i h.on

  same_names : AreSameNames g.given.code b.given.given.code
  same_names = record {
    functions = λ name. ap (λ (k : Module). function_named k name) given.code ∙ given.functions name;
    declarations = λ name. ap (λ (k : Module). declaration_named k name) given.code ∙ given.declarations name;
    globals = ap (λ (k : Module). k.globals) given.code ∙ given.globals;
    count = ap (λ (k : Module). length k.functions) given.code ∙ given.count;
  }

  others : (o : Operand) → ((u : ℕ) → o ≡ Operand.Local u → ⊥) → (ty : Ty)
      → IsValue r.homes (operand_value c.code s.top.values ty o) (operand_value d.code t.top.values ty o)
  others o none ty =
      other_stands r.homes g.given.code b.given.given.code same_names
      (λ k lt. r.globals k (subst (λ (z : Module). k < length z.globals) given.code lt)) s.top.values t.top.values o
      none ty

  framing_is : (func : ℕ) → func ≡ s.top.func → b.framing func ≡ x2
  framing_is func e = ap b.framing e

  -- ---- its operands are fetched

  abbrev T : List (Option Fetch)
  T = fetches_of (plan x2)

  abbrev more : ℕ → Value
  more = slot_address x2 (instance_in t.instances t.top.instance)

  right : AreCellsRight x2 r.homes (frame_rights b.given t.instances) t.world.memory s.top.values
      (at_work t.top (work_of t))
  right = (cells b s t r given.framings i h.on).0

  can_first : (o : Operand) → CanFetch T (loaded_value x2 d (work_of t)) (load_name st) d (work_of t) o
  can_first (Operand.Local u) =
      can_load x2 is2 r.homes d s.top.values t.top (work_of t) right (load_name st) u h.on.order.low
  can_first _ = tt

  may_be_led : MayBeLed r.homes T (slot_table x2) (loaded_value x2 d (work_of t)) more c d (work_of s) (work_of t)
      (load_name st) (address_state st).0 i
  may_be_led = record {
    can = each_all (CanFetch T (loaded_value x2 d (work_of t)) (load_name st) d (work_of t)) can_first
        (instr_operands i);
    can_more = each_turns (IsPlacedOperand x2 s) (CanFetch (slot_table x2) more (load_name st) d (work_of t))
        (can_more b s t r x2 is2 framing_is h.on.mode names2.names h.begin h.offsets c d right (load_name st) low2
        others) (instr_operands i) h.operands;
    below = each_turns (IsBelow (length (edged x2).names)) (IsBelow (load_name st))
        (λ o lt. more_below (length (edged x2).names) (load_name st) o low2 lt) (instr_operands i) h.below;
    over = let p = h.on.order.loads in let e = h.on.order.addresses in omega (arith, p, e);
    room = subst
        (λ (k : ℕ). next_after_all (slot_table x2) (address_state st).0
        (instr_operands (with_fetched T (load_name st) i)) ≤ k) (sym names2.names.room) h.on.order.room;
    apart = λ u le. (far_left x2 is2 u (far_enough u le)).0;
    seen = each_turns (IsPlacedOperand x2 s)
        (IsTwiceFor r.homes T (slot_table x2) (loaded_value x2 d (work_of t)) more c d (work_of s) (work_of t))
        (seen_one b s t r x2 is2 framing_is h.on.mode names2.names h.begin h.offsets c d right (load_name st) low2
        others) (instr_operands i) h.operands;
  }
    where
      far_enough : (u : ℕ) → load_name st ≤ u → First x2 is2 + 2 * Count x2 is2 ≤ u
      far_enough u le =
          let far : Far x2 is2 ≤ length (named x2).names = far_named x2 is2 in
          let e : length (named x2).names ≤ load_name st = h.on.order.low in
          omega (arith, far, e, le)

  pub led_here : IsShownLed r.homes c d (work_of s) (work_of t) (load_name st) i (placed_instr x2 st i)
      (placed_front x2 st i)
  led_here =
      led_shown r.homes T (slot_table x2) (loaded_value x2 d (work_of t)) more c d (work_of s) (work_of t)
      (load_name st) (address_state st).0 i may_be_led

  -- the framed activation has a place for each name
  pub enough : (n : ℕ) → n ≡ length t.top.values → length s.top.values ≤ n
  enough n same =
      let e = h.on.room in
      let names : length t.top.values ≡ length (framed x2).names = names2.names.room in
      let up : (address_state st).0 ≤ next_after_all (slot_table x2) (address_state st).0
      (instr_operands (with_fetched T (load_name st) i)) =
      fetch_rises (slot_table x2) (address_state st).0 (instr_operands (with_fetched T (load_name st) i)) in
      let all = h.on.order.room in
      let high = h.on.order.addresses in
      let most : length (edged x2).names ≤ length (written x2).names = written_high b s t r given.framings i h.on in
      omega (arith, e, names, same, up, all, high, most)

  -- ---- the code

  code_is : becomes (placed_layer x2 s.top.block) st i ≡ placed_line x2 st i
  code_is =
      instr_code x2 s.top.block st i (parts_left x2 is2 s.top.block s.top.at i h.on.there)
      ∙ line_is x2 s.top.block st i h.lined h.unlocated (λ u e. (h.on.unmeasured u e).no_distance)

  pub stands_here : StandsInPlace x2 s.top.block s.top.at (placed_line x2 st i)
  stands_here =
      code_stands x2 s.top.block s.top.at i (placed_line x2 st i) h.on.there code_is
      (line_no_alloca x2 s.top.block st i h.lined h.unlocated (λ u e. (h.on.unmeasured u e).no_distance))
      h.on.unreturned

  code_framed : function_of b.given.given t ≡ framed x2
  code_framed =
      (λ k. function_at (given.code k) (r.top.func k)) ∙ (given.built.coroutines s.top.func h.on.coroutine).is

  pub stand_here : StandAt (function_of b.given.given t) t.top.block t.top.at (placed_line x2 st i)
  stand_here =
      subst (λ (f : Function). StandAt f t.top.block t.top.at (placed_line x2 st i)) (sym code_framed)
      (subst (λ (k : ℕ). StandAt (framed x2) k t.top.at (placed_line x2 st i))
      (sym (block_is b s t r given.framings i h.on))
      (subst (λ (k : ℕ). StandAt (framed x2) s.top.block k (placed_line x2 st i))
      (sym (at_is b s t r given.framings i h.on)) stands_here.0))

  pub runs_here : t.outcome ≡ Outcome.Running
  runs_here = r.outcome ∙ h.runs

  -- ---- the first run's step, and its cost

  pub fetched_here : fetch (function_of g.given s) s.top.block s.top.at ≡ AtInstr i
  fetched_here =
      ap (λ (f : Function). fetch f s.top.block s.top.at) (given.coroutines s.top.func h.on.coroutine)
      ∙ instr_there (edged x2) s.top.block s.top.at i h.on.there

  -- where the action costs what stands there
  pub cost_here : (act : Action) → instr_action c (work_of s) i ≡ act
      → coroutine_cost b g s act ≡ instr_cost x2 (record { block = s.top.block; at = s.top.at })
      → step_cost b g s s.top.mode ≡ length (placed_line x2 st i)
  cost_here act does e =
      cost_is b g s s.top.mode h.on.mode
      ∙ ap (λ (k : Bool). if k then coroutine_cost b g s (action_at g s) else other_cost b g s (action_at g s))
      h.on.coroutine
      ∙ ap (coroutine_cost b g s) (ap (action_of c (work_of s)) fetched_here ∙ does)
      ∙ e
      ∙ ap (λ (k : ℕ). k - (place x2 (record { block = s.top.block; at = s.top.at })).at) stands_here.1
      ∙ behind (place x2 (record { block = s.top.block; at = s.top.at })).at (length (placed_line x2 st i))
    where
      behind : (a len : ℕ) → (a + len) - a ≡ len
      behind a len = omega arith
