-- An access before begin in related states: its operands are fetched, and each leads to where the source's does.
use Rattle.std.proofs.Common.{◌≡◌, ◌*◌, ◌+◌, ◌<◌, ◌≤◌, ◌∙◌, List, None, Option, Some, ap, arith, length, subst, sym}
use Rattle.std.proofs.Common.{ℕ}
use Rattle.pass_frames_steps.proofs.ir_laws.facts.Members.{each_all, each_turns}
use Rattle.pass_frames_steps.specs.ir_model.Names.{declaration_named, function_named}
use Rattle.pass_frames_steps.specs.ir_model.Ty.{Ty}
use Rattle.pass_frames_steps.specs.ir_model.declared.instr.Instr.{Instr}
use Rattle.pass_frames_steps.specs.ir_model.declared.module.Module.{Module}
use Rattle.pass_frames_steps.specs.ir_model.declared.operand.Operand.{Operand}
use Rattle.pass_frames_steps.specs.ir_parts.Contents.{instr_operands}
use Rattle.pass_frames_steps.specs.pass_cells.Cells.{fetches_of}
use Rattle.pass_frames_steps.specs.pass_fetch.Fetching.{fetch_of, fetches_of_all, next_after_all}
use Rattle.pass_frames_steps.specs.pass_fetch.declared.fetch.Fetch.{Fetch}
use Rattle.pass_frames_steps.proofs.code.Left.{Far, far_named}
use Rattle.pass_frames_steps.proofs.code.Names.{Count, First, far_left}
use Rattle.pass_frames_steps.proofs.distances.Sums.{more_below}
use Rattle.pass_frames_steps.proofs.lines.Loads.{can_load}
use Rattle.pass_frames_proof.proofs.located.Seen.{AreRight, IsSeenAt, early_seen, other_seen}
use Rattle.pass_frames_proof.proofs.located.Thrice.{CanLast, CanThen, IsLedThrice, led_thrice}
use Rattle.pass_frames_proof.proofs.located.Wheres.{can_where, where_value}
use Rattle.pass_frames_steps.proofs.stepping.Fetch.{coroutine_values, not_returned}
use Rattle.pass_frames_steps.proofs.stepping.Names.{edged_named}
use Rattle.pass_frames_steps.proofs.stepping.Operands.{AreSameNames, can_more, other_stands, slot_address}
use Rattle.pass_frames_steps.specs.Code.{address_state, load_name, loaded, slot_table, where_name}
use Rattle.pass_frames_steps.specs.Distances.{IsBelow}
use Rattle.pass_frames_steps.specs.Fetched.{CanFetch}
use Rattle.pass_frames_steps.specs.Framings.{IsFraming}
use Rattle.pass_frames_steps.specs.Lines.{at_work}
use Rattle.pass_frames_steps.specs.Loaded.{loaded_value}
use Rattle.pass_frames_steps.specs.Located.{Early, IsAtAccess, IsLocatedOperand, Other, addressed_instr, where_table}
use Rattle.pass_frames_steps.specs.Places.{Framing, Placed, edged, framed, named, plan}
use Rattle.pass_frames_steps.specs.Related.{AreBuiltOf, AreCellsRight, AreCoroutines, AreWheresRight, Building}
use Rattle.pass_frames_steps.specs.Related.{HasCells, instance_in, is_coroutine}
use Rattle.pass_frames_steps.specs.Stepping.{AreGiven, state_in}
use Rattle.pass_frames_steps.specs.Temporaries.{HasLedSlots}
use Rattle.pass_frames_steps.specs.pass_renewed_proof.Renewed.{RenewedGiven}
use Rattle.pass_frames_steps.proofs.pass_proofs.fetch.rules.Puts.{fetch_rises}
use Rattle.pass_frames_steps.specs.run_framed.Framed.{frame_rights, framed_context}
use Rattle.pass_frames_steps.specs.run_laws.changed.Changed.{Each}
use Rattle.pass_frames_steps.specs.run_laws.memory.Pointers.{IsValue}
use Rattle.pass_frames_steps.specs.run_memory.Memory.{Rights}
use Rattle.pass_frames_steps.specs.run_memory.declared.pointer.Value.{Value}
use Rattle.pass_frames_steps.specs.run_source.Source.{context_of}
use Rattle.pass_frames_steps.specs.run_source.State.{work_of}
use Rattle.pass_frames_steps.specs.run_source.declared.state.State.{State}
use Rattle.pass_frames_steps.specs.run_step.Step.{Context, Work}
use Rattle.pass_frames_steps.specs.run_step.Values.{operand_value}

module _ (b : Building) (g : RenewedGiven) (given : AreGiven b g) (s t : State) (r : AreBuiltOf b s t)
    (ledger : HasLedSlots t) (i : Instr) (v : Work) (h : IsAtAccess b g s i v) where
  abbrev pub x : Framing
  x = b.framing s.top.func

  abbrev pub st : Placed
  st = state_in x s.top.block s.top.at

  abbrev pub n : ℕ
  n = load_name st

  abbrev pub k : ℕ
  k = where_name st

  abbrev pub m : ℕ
  m = (address_state st).0

  abbrev pub c : Context
  c = context_of g.given s

  abbrev pub d : Context
  d = framed_context b.given t

  abbrev pub R : Rights
  R = frame_rights b.given t.instances

  pub is : IsFraming x
  is = given.framings s.top.func h.coroutine

  pub values : AreCoroutines x r.homes R t s.top t.top
  values = coroutine_values b r.homes R t s.top t.top (is_coroutine b s.top.func) h.coroutine r.top.values

  pub cells : AreCellsRight x r.homes R t.world.memory s.top.values t.top
      × AreWheresRight x R t.world.memory (instance_in t.instances t.top.instance) t.top
  cells =
      subst (λ (o : Option ℕ). HasCells x r.homes R t.world.memory
      (instance_in t.instances t.top.instance) s.top t.top o)
      (not_returned x s.top s.top.mode h.mode h.unreturned) values.cells

  -- ---- names

  pub low : length (edged x).names ≤ n
  low =
      let far : length (edged x).names ≤ length (named x).names = edged_named x in
      let e : length (named x).names ≤ n = h.order.low in
      omega (arith, far, e)

  pub same_names : AreSameNames g.given.code b.given.given.code
  same_names = record {
    functions = λ name. ap (λ (z : Module). function_named z name) given.code ∙ given.functions name;
    declarations = λ name. ap (λ (z : Module). declaration_named z name) given.code ∙ given.declarations name;
    globals = ap (λ (z : Module). z.globals) given.code ∙ given.globals;
    count = ap (λ (z : Module). length z.functions) given.code ∙ given.count;
  }

  others : (o : Operand) → ((u : ℕ) → o ≡ Operand.Local u → ⊥) → (ty : Ty)
      → IsValue r.homes (operand_value c.code s.top.values ty o) (operand_value d.code t.top.values ty o)
  others o none ty =
      other_stands r.homes g.given.code b.given.given.code same_names
      (λ j lt. r.globals j (subst (λ (z : Module). j < length z.globals) given.code lt)) s.top.values t.top.values o
      none ty

  framing_is : (func : ℕ) → func ≡ s.top.func → b.framing func ≡ x
  framing_is func e = ap b.framing e

  far_left_of : (u : ℕ) → n ≤ u → First x is + 2 * Count x is ≤ u
  far_left_of u le =
      let far : Far x is ≤ length (named x).names = far_named x is in
      let e : length (named x).names ≤ n = h.order.low in
      omega (arith, far, e, le)

  -- ---- what the tables give

  abbrev pub T : List (Option Fetch)
  T = fetches_of (plan x)

  abbrev pub W : List (Option Fetch)
  W = where_table x

  abbrev pub U : List (Option Fetch)
  U = slot_table x

  abbrev pub one : ℕ → Value
  one = loaded_value x d (work_of t)

  abbrev pub two : ℕ → Value
  two = where_value x d (work_of t)

  abbrev pub three : ℕ → Value
  three = slot_address x (instance_in t.instances t.top.instance)

  right : AreCellsRight x r.homes R t.world.memory s.top.values (at_work t.top (work_of t))
  right = cells.0

  wheres : AreWheresRight x R t.world.memory (instance_in t.instances t.top.instance) (at_work t.top (work_of t))
  wheres = cells.1

  pub apart : (u : ℕ) → n ≤ u → fetch_of W (Operand.Local u) ≡ None
  apart u le = (far_left x is u (far_left_of u le)).1

  pub apart_too : (u : ℕ) → n ≤ u → fetch_of U (Operand.Local u) ≡ None
  apart_too u le = (far_left x is u (far_left_of u le)).0

  can_first : (o : Operand) → CanFetch T one n d (work_of t) o
  can_first (Operand.Local u) = can_load x is r.homes d s.top.values t.top (work_of t) right n u h.order.low
  can_first _ = tt

  abbrev line : List Instr
  line = fetches_of_all T n (instr_operands i)

  can_second : (o : Operand) → CanThen T W U one two three d n apart apart_too (work_of t) k line o
  can_second o = λ w runs sets.
      can_where x d (instance_in t.instances t.top.instance) t.top (work_of t) wheres T n k (instr_operands i)
      (λ e listed.
      let q = h.order.slots e listed in
      let le = h.order.loads in
      let high = q.0.1 in
      (omega (arith, le, high), q.1.1)) o w runs sets

  can_third : (o : Operand) → IsLocatedOperand x s o
      → CanLast T W U one two three d n apart apart_too (work_of t) o
  can_third _ (Early u f e q) none = let no : None ≡ Some f = sym none ∙ e in absurd (cc)
  can_third _ (Other o e q) none =
      can_more b s t r x is framing_is h.mode values.names h.begin h.offsets c d right n low others o q

  -- ---- the line

  pub led : IsLedThrice T W U one two three d n apart apart_too (work_of t) k m i
  led =
      led_thrice T W U one two three d n apart apart_too (work_of t) k m i
      (each_all (CanFetch T one n d (work_of t)) can_first (instr_operands i))
      (each_all (CanThen T W U one two three d n apart apart_too (work_of t) k line) can_second (instr_operands i))
      (each_turns (IsLocatedOperand x s) (CanLast T W U one two three d n apart apart_too (work_of t)) can_third
      (instr_operands i) h.operands)
      (each_turns (IsBelow (length (edged x).names)) (IsBelow n)
      (λ o lt. more_below (length (edged x).names) n o low lt) (instr_operands i) h.below)
      (let le = h.order.loads in let high = h.order.wheres in omega (arith, le, high)) h.order.addresses
      (subst (λ (l : ℕ). next_after_all U m (instr_operands (addressed_instr x st i)) ≤ l) (sym values.names.room)
      h.order.room)

  -- ---- what is seen of its operands

  all_right : AreRight b g s t r ledger i v h
  all_right = record {
    framing = is;
    names = values.names;
    cells = right;
    wheres = wheres;
    low = low;
    others = others;
  }

  seen_one : (o : Operand) → IsLocatedOperand x s o → IsSeenAt b g s t r ledger i v h o
  seen_one _ (Early u f e q) = early_seen b g s t r ledger i v h all_right u f e q
  seen_one _ (Other o e q) = other_seen b g s t r ledger i v h all_right o e q

  pub seen_all : Each (IsSeenAt b g s t r ledger i v h) (instr_operands i)
  seen_all = each_turns (IsLocatedOperand x s) (IsSeenAt b g s t r ledger i v h) seen_one (instr_operands i) h.operands

  pub wide : (l : ℕ) → l ≡ length t.top.values → length s.top.values ≤ l
  wide l same =
      let e = h.room in
      let long : length t.top.values ≡ length (framed x).names = values.names.room in
      let up : m ≤ next_after_all U m (instr_operands (addressed_instr x st i)) =
      fetch_rises U m (instr_operands (addressed_instr x st i)) in
      let all = h.order.room in
      let high = h.order.addresses in
      let more : k ≤ next_after_all W k (instr_operands (loaded x st i)) =
      fetch_rises W k (instr_operands (loaded x st i)) in
      let wrote = h.order.wheres in
      let loads = h.order.loads in
      let first : n ≤ next_after_all T n (instr_operands i) = fetch_rises T n (instr_operands i) in
      let bottom = low in
      omega (arith, e, long, same, up, all, high, more, wrote, loads, first, bottom)
