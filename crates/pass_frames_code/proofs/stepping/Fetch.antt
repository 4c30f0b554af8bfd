-- An instruction of a coroutine at a state that is related: its operands are fetched, whatever it does.
use Rattle.std.proofs.Common.{◌≡◌, ℕ, ◌+◌, ◌*◌, ◌<◌, ◌≤◌, Bool, true, false, List, length, refl, sym, ap, ◌∙◌, subst, arith}
use Rattle.std.proofs.lemmas.List.{map-append}
use Rattle.std.specs.List.{Contains}
use Rattle.std.specs.Prelude.{None, Option, Some, map, option_map, if◌then◌else◌}
use Rattle.pass_proofs.specs.ir_base.declared.name.Name.{Name}
use Rattle.pass_proofs.proofs.ir_laws.facts.Members.{each_all, each_turns}
use Rattle.pass_proofs.proofs.ir_laws.paths.edges.Lists.{different_left}
use Rattle.pass_proofs.specs.ir_laws.paths.woven_rules.Pairs.{AreDifferent}
use Rattle.pass_proofs.specs.ir_model.Names.{declaration_named, function_named}
use Rattle.pass_proofs.specs.ir_model.Ty.{Ty}
use Rattle.pass_proofs.specs.ir_model.declared.instr.Instr.{Instr}
use Rattle.pass_proofs.specs.ir_model.declared.module.Module.{Module}
use Rattle.pass_proofs.specs.ir_model.declared.operand.Operand.{Operand}
use Rattle.pass_proofs.specs.ir_parts.Contents.{instr_operands}
use Rattle.pass_proofs.specs.pass_cells.Cells.{fetches_of}
use Rattle.pass_proofs.specs.pass_cells.Kept.{entry}
use Rattle.pass_proofs.specs.pass_fetch.Fetching.{next_after_all}
use Rattle.pass_proofs.specs.pass_fetch.Instrs.{with_fetched}
use Rattle.pass_proofs.specs.pass_fetch.declared.fetch.Fetch.{Fetch}
use Rattle.pass_frames_code.proofs.code.Left.{Far, far_named, far_written}
use Rattle.pass_frames_code.proofs.code.Names.{Count, First, far_left}
use Rattle.pass_frames_code.proofs.distances.Sums.{more_below}
use Rattle.pass_frames_code.proofs.led.Front.{IsShownLed, led_shown}
use Rattle.pass_frames_code.proofs.lines.Loads.{can_load}
use Rattle.pass_frames_code.proofs.stepping.Operands.{AreSameNames, can_more, other_stands, seen_one, slot_address}
use Rattle.pass_frames_code.specs.Operands.{IsAtFetch}
use Rattle.pass_frames_code.specs.Code.{address_state, load_name, slot_table}
use Rattle.pass_frames_code.specs.Distances.{IsBelow}
use Rattle.pass_frames_code.specs.Fetched.{CanFetch}
use Rattle.pass_frames_code.specs.Framings.{IsFraming}
use Rattle.pass_frames_code.specs.Led.{IsLed, IsTwiceFor, MayBeLed}
use Rattle.pass_frames_code.specs.Lines.{HasOwnBlocks, IsCellOf, at_work}
use Rattle.pass_frames_code.specs.Loaded.{loaded_value}
use Rattle.pass_frames_code.specs.Places.{Framing, Placed, edged, is_return, named, plan, written}
use Rattle.pass_frames_code.specs.Related.{AreBuiltOf, AreCellsRight, AreCoroutines, AreWheresRight, Building, HasCells, HasValues, IsCellName, IsFreeOf, all_slots, instance_in, is_coroutine, returned_from, slots_below}
use Rattle.pass_frames_code.specs.Stepping.{AreGiven, IsNotEntering, IsPlacedOperand, placed_front, placed_instr, state_in}
use Rattle.pass_frames_code.specs.Passes.{block_at}
use Rattle.pass_proofs.proofs.fetch.rules.Puts.{fetch_rises}
use Rattle.pass_renewed_proof.specs.Renewed.{RenewedGiven}
use Rattle.pass_proofs.specs.run_framed.Framed.{frame_rights, framed_context}
use Rattle.pass_proofs.specs.run_laws.memory.Pointers.{Home, IsValue}
use Rattle.pass_proofs.specs.run_laws.transfer.Shapes.{InstrStays}
use Rattle.pass_proofs.specs.run_laws.transfer.Transfer.{IsNamedAlike, StandsFor, same_maps}
use Rattle.pass_proofs.specs.run_memory.Memory.{Rights}
use Rattle.pass_proofs.specs.run_memory.declared.pointer.Value.{Value}
use Rattle.pass_proofs.specs.run_source.Source.{context_of}
use Rattle.pass_proofs.specs.run_source.State.{work_of}
use Rattle.pass_proofs.specs.run_source.declared.state.Activation.{Activation}
use Rattle.pass_proofs.specs.run_source.declared.state.Mode.{Mode}
use Rattle.pass_proofs.specs.run_source.declared.state.State.{State}
use Rattle.pass_proofs.specs.run_step.Step.{Context}
use Rattle.pass_proofs.specs.run_step.Values.{operand_value}
use Rattle.pass_proofs.specs.run_step.declared.world.Slot.{Slot}

-- ---- small things

-- it has come to no block on a resume or destroy edge
pub not_returned : (x : Framing) (a : Activation) (mode : Mode) → IsNotEntering mode → is_return x a.block ≡ false
    → returned_from x a mode ≡ None
not_returned x a Mode.Plain h e = ap (λ (b : Bool). if b then entry (plan x).returns (block_at
    (edged x) a.block).label else None) e
not_returned x a Mode.Ramp h e = ap (λ (b : Bool). if b then entry (plan x).returns (block_at
    (edged x) a.block).label else None) e
not_returned x a (Mode.GivenRamp frame) h e =
    ap (λ (b : Bool). if b then entry (plan x).returns (block_at (edged x) a.block).label else None) e
not_returned x a Mode.Resumed h e = ap (λ (b : Bool). if b then entry (plan x).returns (block_at
    (edged x) a.block).label else None) e
not_returned x a (Mode.Entering from label) h e = absurd h

pub coroutine_values : (b : Building) (homes : List Home) (rights : Rights) (t : State) (a c : Activation) (k : Bool)
    → k ≡ true → HasValues b homes rights t a c k → AreCoroutines (b.framing a.func) homes rights t a c
coroutine_values b homes rights t a c true e h = h
coroutine_values b homes rights t a c false e h = absurd (cc)

-- slots have blocks of their own
pub own_blocks : (t : State) → AreDifferent (map (λ (slot : Slot). slot.block) (all_slots t)) → HasOwnBlocks t.top
own_blocks t d =
    different_left (map (λ (slot : Slot). slot.block) t.top.slots)
    (map (λ (slot : Slot). slot.block) (slots_below t.below))
    (subst AreDifferent (map-append (λ (slot : Slot). slot.block) t.top.slots (slots_below t.below)) d)

pub option_same : (o : Option ℕ) → option_map (λ (k : ℕ). k) o ≡ o
option_same None = refl
option_same (Some k) = refl

pub named_alike : (c d : Context) → ((n : Name) → function_named d.code n ≡ function_named c.code n)
    → ((n : Name) → declaration_named d.code n ≡ declaration_named c.code n) → (o : Option Name)
    → IsNamedAlike same_maps c d o
named_alike c d functions declarations None = tt
named_alike c d functions declarations (Some n) = (
  functions n ∙ sym (option_same (function_named c.code n)),
  declarations n ∙ sym (option_same (declaration_named c.code n)),
)

-- ---- the state

module _ (b : Building) (g : RenewedGiven) (given : AreGiven b g) (s t : State) (r : AreBuiltOf b s t) (i : Instr)
    (h : IsAtFetch b s i) where
  abbrev pub x : Framing
  x = b.framing s.top.func

  pub is : IsFraming x
  is = given.framings s.top.func h.coroutine

  abbrev pub place_state : Placed
  place_state = state_in x s.top.block s.top.at

  abbrev pub n : ℕ
  n = load_name place_state

  abbrev pub m : ℕ
  m = (address_state place_state).0

  abbrev pub c : Context
  c = context_of g.given s

  abbrev pub d : Context
  d = framed_context b.given t

  abbrev pub R : Rights
  R = frame_rights b.given t.instances

  pub values : AreCoroutines x r.homes R t s.top t.top
  values = coroutine_values b r.homes R t s.top t.top (is_coroutine b s.top.func) h.coroutine r.top.values

  pub cells : AreCellsRight x r.homes R t.world.memory s.top.values t.top
      × AreWheresRight x R t.world.memory (instance_in t.instances t.top.instance) t.top
  cells =
      subst (λ (o : Option ℕ). HasCells x r.homes R t.world.memory
      (instance_in t.instances t.top.instance) s.top t.top o)
      (not_returned x s.top s.top.mode h.mode h.unreturned) values.cells

  -- ---- names

  pub low : length (edged x).names ≤ n
  low =
      let a : Far x is ≤ length (named x).names = far_named x is in
      let e : length (named x).names ≤ n = h.order.low in
      omega (arith, a, e)

  pub written_high : length (edged x).names ≤ length (written x).names
  written_high = let a : Far x is ≤ length (written x).names = far_written x is in omega (arith, a)

  pub same_names : AreSameNames g.given.code b.given.given.code
  same_names = record {
    functions = λ name. ap (λ (k : Module). function_named k name) given.code ∙ given.functions name;
    declarations = λ name. ap (λ (k : Module). declaration_named k name) given.code ∙ given.declarations name;
    globals = ap (λ (k : Module). k.globals) given.code ∙ given.globals;
    count = ap (λ (k : Module). length k.functions) given.code ∙ given.count;
  }

  pub others : (o : Operand) → ((u : ℕ) → o ≡ Operand.Local u → ⊥) → (ty : Ty)
      → IsValue r.homes (operand_value c.code s.top.values ty o) (operand_value d.code t.top.values ty o)
  others o none ty =
      other_stands r.homes g.given.code b.given.given.code same_names
      (λ k lt. r.globals k (subst (λ
      (z : Module). k < length z.globals) given.code lt)) s.top.values t.top.values o none
      ty

  framing_is : (func : ℕ) → func ≡ s.top.func → b.framing func ≡ x
  framing_is func e = ap b.framing e

  -- ---- its operands are fetched

  abbrev T : List (Option Fetch)
  T = fetches_of (plan x)

  abbrev more : ℕ → Value
  more = slot_address x (instance_in t.instances t.top.instance)

  pub right : AreCellsRight x r.homes R t.world.memory s.top.values (at_work t.top (work_of t))
  right = cells.0

  can_first : (o : Operand) → CanFetch T (loaded_value x d (work_of t)) n d (work_of t) o
  can_first (Operand.Local u) = can_load x is r.homes d s.top.values t.top (work_of t) right n u h.order.low
  can_first _ = tt

  may_be_led : MayBeLed r.homes T (slot_table x) (loaded_value x d (work_of t)) more c d (work_of s) (work_of t) n m i
  may_be_led = record {
    can = each_all (CanFetch T (loaded_value x d (work_of t)) n d (work_of t)) can_first (instr_operands i);
    can_more = each_turns (IsPlacedOperand x s) (CanFetch (slot_table x) more n d (work_of t))
        (can_more b s t r x is framing_is h.mode values.names h.begin h.offsets c d right n low others)
        (instr_operands i)
        h.operands;
    below = each_turns (IsBelow (length (edged x).names)) (IsBelow n)
        (λ o lt. more_below (length (edged x).names) n o low lt) (instr_operands i) h.below;
    over = let a = h.order.loads in let e = h.order.addresses in omega (arith, a, e);
    room = subst (λ (k : ℕ). next_after_all (slot_table x) m (instr_operands (with_fetched T n i)) ≤ k)
        (sym values.names.room) h.order.room;
    apart = λ u le. (far_left x is u (far_enough u le)).0;
    seen = each_turns (IsPlacedOperand x s)
        (IsTwiceFor r.homes T (slot_table x) (loaded_value x d (work_of t)) more c d (work_of s) (work_of t))
        (seen_one b s t r x is framing_is h.mode values.names h.begin h.offsets c d right n low others)
        (instr_operands i) h.operands;
  }
    where
      far_enough : (u : ℕ) → n ≤ u → First x is + 2 * Count x is ≤ u
      far_enough u le =
          let a : Far x is ≤ length (named x).names = far_named x is in
          let e : length (named x).names ≤ n = h.order.low in
          omega (arith, a, e, le)

  all_led : IsShownLed r.homes c d (work_of s) (work_of t) n i (placed_instr x place_state i)
      (placed_front x place_state i)
  all_led = led_shown r.homes T (slot_table x) (loaded_value x d (work_of t)) more c d (work_of s) (work_of t) n m i
      may_be_led

  pub led : IsLed r.homes c d (work_of s) (work_of t) n i (placed_instr x place_state i) (placed_front x place_state i)
  led = all_led.led

  -- operands stand for the source's also where it doesn't look at them
  pub led_seen : InstrStays (StandsFor true (IsValue r.homes) c d s.top.values led.work.values) i
      (placed_instr x place_state i)
  unfolding led
  led_seen = all_led.shown

  -- ---- the step

  pub enough : length s.top.values ≤ length t.top.values
  enough =
      let a = h.room in
      let e = values.names.room in
      let up : m ≤ next_after_all (slot_table x) m (instr_operands (with_fetched T n i)) =
      fetch_rises (slot_table x) m (instr_operands (with_fetched T n i)) in
      let all = h.order.room in
      let high = h.order.addresses in
      let wide = written_high in
      omega (arith, a, e, up, all, high, wide)

  -- cells are free of the source's blocks
  same_func : t.top.func ≡ s.top.func
  same_func = r.top.func

  pub cell_name : (u : ℕ) → IsCellOf x u → IsCellName x u
  cell_name u of = record {
    new = of.0;
    no_temporary = λ e listed same.
        let lt : u < length (named x).names = of.1 in
        let high : length (written x).names ≤ e.temporary = (h.order.slots e listed).0.0 in
        let long : length (named x).names ≤ length (written x).names = named_written in
        absurd (omega (arith, lt, high, long, same));
  }
    where
      named_written : length (named x).names ≤ length (written x).names
      named_written =
          let a : length (named x).names ≤ n = h.order.low in
          let up : n ≤ next_after_all T n (instr_operands i) = fetch_rises T n (instr_operands i) in
          let e = h.order.loads in
          omega (arith, a, up, e)

  pub free : (slot : Slot) → Contains t.top.slots slot → IsCellName x slot.alloca
      → IsFreeOf r.homes r.hides s.world.memory slot.block
  free slot listed name =
      r.cells.0 (subst (λ (k : ℕ). is_coroutine b k ≡ true) (sym same_func) h.coroutine) slot listed
      (subst (λ (k : ℕ). IsCellName (b.framing k) slot.alloca) (sym same_func) name)
