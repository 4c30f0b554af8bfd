-- In front of begin its memory is loaded, where a cell keeps it. What is loaded is the address of the block's mate.
use Rattle.std.proofs.Common.{◌≡◌, ◌<◌, ◌≤◌, ◌∙◌, List, None, Option, Some, ap, arith, false, inr, length, refl, subst, sym, ℕ}
use Rattle.std.specs.Prelude.{option_map}
use Rattle.pass_frames_steps.proofs.ir_laws.facts.Members.{each_all, each_turns}
use Rattle.pass_frames_steps.specs.ir_model.Names.{declaration_named, function_named}
use Rattle.pass_frames_steps.specs.ir_model.declared.instr.Instr.{Instr}
use Rattle.pass_frames_steps.specs.ir_model.declared.module.Module.{Module}
use Rattle.pass_frames_steps.specs.ir_model.declared.operand.Operand.{Operand}
use Rattle.pass_frames_steps.specs.ir_parts.Contents.{instr_operands}
use Rattle.pass_frames_steps.specs.pass_cells.Cells.{fetches_of}
use Rattle.pass_frames_steps.specs.pass_cells.Kept.{entry}
use Rattle.pass_frames_steps.specs.pass_fetch.Fetching.{fetch_of, fetched_operand, next_after}
use Rattle.pass_frames_steps.specs.pass_fetch.declared.fetch.Fetch.{Fetch}
use Rattle.pass_frames_steps.specs.pass_frames.Framed.{begin_of}
use Rattle.pass_frames_proof.proofs.beginning.Becoming.{front, front_still, i as begins, line, m as address_name, n as load_from, one, st}
use Rattle.pass_frames_proof.proofs.beginning.Given.{Begins}
use Rattle.pass_frames_proof.proofs.beginning.Places.{B, X, home_is}
use Rattle.pass_frames_steps.proofs.code.Left.{Far, far_named, fetch_found}
use Rattle.pass_frames_steps.proofs.distances.Sums.{more_below}
use Rattle.pass_frames_steps.proofs.fetched.Runs.{fetched}
use Rattle.pass_frames_steps.proofs.led.Steps.{still_others}
use Rattle.pass_frames_steps.proofs.lines.Loads.{can_load, loaded_stands}
use Rattle.pass_frames_steps.proofs.marking.Kept.{named_there}
use Rattle.pass_frames_steps.proofs.stepping.After.{not_set}
use Rattle.pass_frames_steps.proofs.stepping.May.{coroutine_values, not_returned}
use Rattle.pass_frames_steps.proofs.stepping.Operands.{AreSameNames, asked, not_kept, other_stands, outside_not, slot_fetch}
use Rattle.pass_frames_steps.specs.Beginning.{IsAtBegin}
use Rattle.pass_frames_steps.specs.Code.{slot_table}
use Rattle.pass_frames_steps.specs.Distances.{IsBelow}
use Rattle.pass_frames_steps.specs.Fetched.{AreFetched, CanFetch, seen_by, seen_of}
use Rattle.pass_frames_steps.specs.Framings.{IsFraming}
use Rattle.pass_frames_steps.specs.Led.{IsStill}
use Rattle.pass_frames_steps.specs.Loaded.{loaded_value}
use Rattle.pass_frames_steps.specs.Places.{Framing, Placed, edged, framed, named, offsets, plan, written}
use Rattle.pass_frames_steps.specs.Related.{AreBuiltOf, AreCellsRight, AreCoroutines, AreWheresRight, Building, HasCells, instance_in, is_coroutine}
use Rattle.pass_frames_steps.specs.Stepping.{AreGiven, IsNotEntering}
use Rattle.pass_frames_steps.specs.pass_renewed_proof.Renewed.{RenewedGiven}
use Rattle.pass_frames_steps.specs.pass_proofs.addresses.rules.Addresses.{lies_in_frame}
use Rattle.pass_frames_steps.specs.run_framed.Framed.{frame_rights, framed_context}
use Rattle.pass_frames_steps.specs.run_laws.access.Lines.{Runs}
use Rattle.pass_frames_steps.specs.run_laws.changed.Changed.{Each}
use Rattle.pass_frames_steps.specs.run_laws.memory.Pointers.{IsValue}
use Rattle.pass_frames_steps.specs.run_memory.Memory.{Rights}
use Rattle.pass_frames_steps.specs.run_memory.declared.pointer.Value.{Value}
use Rattle.pass_frames_steps.specs.run_source.State.{work_of}
use Rattle.pass_frames_steps.specs.run_source.declared.state.State.{State}
use Rattle.pass_frames_steps.specs.run_step.Step.{Context, Work}
use Rattle.pass_frames_steps.specs.run_step.Values.{operand_value, pointer_to, value_in}

-- what has no address made lies in no frame
outside_of : (x : Framing) (v : ℕ) → fetch_of (slot_table x) (Operand.Local v) ≡ None
    → lies_in_frame (offsets x) v ≡ false
outside_of x v none = outside_not x v (on (entry (offsets x) v) refl)
  where
    on : (o : Option ℕ) → entry (offsets x) v ≡ o → entry (offsets x) v ≡ None
    on None e = e
    on (Some d) e =
        let no : None ≡ Some (Fetch.Address (begin_of x.function) d) =
        sym none ∙ slot_fetch x v ∙ ap (option_map (Fetch.Address (begin_of x.function))) e in
        absurd (cc)

module _ (facts : Begins) where
  abbrev b : Building
  b = facts.b

  abbrev g : RenewedGiven
  g = facts.g

  abbrev given : AreGiven b g
  given = facts.given

  abbrev s : State
  s = facts.s

  abbrev t : State
  t = facts.t

  abbrev r : AreBuiltOf b s t
  r = facts.r

  abbrev h : IsAtBegin b g s facts.result facts.must_tail facts.ty facts.id facts.typed facts.memory facts.block
  h = facts.h

  abbrev x : Framing
  x = X facts

  pub is : IsFraming x
  is = given.framings s.top.func h.coroutine

  pub not_entering : IsNotEntering s.top.mode
  not_entering = subst IsNotEntering (sym h.ramp) tt

  abbrev R : Rights
  R = frame_rights b.given t.instances

  pub old : AreCoroutines x r.homes R t s.top t.top
  old = coroutine_values b r.homes R t s.top t.top (is_coroutine b s.top.func) h.coroutine r.top.values

  pub old_cells : AreCellsRight x r.homes R t.world.memory s.top.values t.top
      × AreWheresRight x R t.world.memory (instance_in t.instances t.top.instance) t.top
  old_cells =
      subst (λ (o : Option ℕ). HasCells x r.homes R t.world.memory (instance_in t.instances t.top.instance) s.top t.top o)
      (not_returned x s.top s.top.mode not_entering h.unreturned) old.cells

  pub unkept : (v : ℕ) → facts.result ≡ Some v → entry (plan x).places v ≡ None
  unkept v e = (h.named v e).1

  abbrev pub k : ℕ
  k = s.top.block

  abbrev pub I : Instr
  I = begins x is k s.top.at facts.result facts.must_tail facts.ty facts.id facts.typed facts.memory h.there h.token
      h.outside h.order.low unkept

  abbrev pub St : Placed
  St = st x is k s.top.at facts.result facts.must_tail facts.ty facts.id facts.typed facts.memory h.there h.token
      h.outside h.order.low unkept

  abbrev pub N0 : ℕ
  N0 = load_from x is k s.top.at facts.result facts.must_tail facts.ty facts.id facts.typed facts.memory h.there h.token
      h.outside h.order.low unkept

  abbrev pub M0 : ℕ
  M0 = address_name x is k s.top.at facts.result facts.must_tail facts.ty facts.id facts.typed facts.memory h.there
      h.token h.outside h.order.low unkept

  abbrev pub Front : List Instr
  Front = front x is k s.top.at facts.result facts.must_tail facts.ty facts.id facts.typed facts.memory h.there h.token
      h.outside h.order.low unkept

  abbrev pub One : Instr
  One = one x is k s.top.at facts.result facts.must_tail facts.ty facts.id facts.typed facts.memory h.there h.token
      h.outside h.order.low unkept

  abbrev pub Line : List Instr
  Line = line x is k s.top.at facts.result facts.must_tail facts.ty facts.id facts.typed facts.memory h.there h.token
      h.outside h.order.low unkept

  pub still : Each IsStill Front
  still = front_still x is k s.top.at facts.result facts.must_tail facts.ty facts.id facts.typed facts.memory h.there
      h.token h.outside h.order.low unkept

  abbrev d : Context
  d = framed_context b.given t

  abbrev T : List (Option Fetch)
  T = fetches_of (plan x)

  abbrev operands : List Operand
  operands = instr_operands I

  same_names : AreSameNames g.given.code b.given.given.code
  same_names = record {
    functions = λ name. ap (λ (m : Module). function_named m name) given.code ∙ given.functions name;
    declarations = λ name. ap (λ (m : Module). declaration_named m name) given.code ∙ given.declarations name;
    globals = ap (λ (m : Module). m.globals) given.code ∙ given.globals;
    count = ap (λ (m : Module). length m.functions) given.code ∙ given.count;
  }

  can : (o : Operand) → CanFetch T (loaded_value x d (work_of t)) N0 d (work_of t) o
  can (Operand.Local u) = can_load x is r.homes d s.top.values t.top (work_of t) old_cells.0 N0 u h.order.low
  can _ = tt

  pub low_names : length (edged x).names ≤ N0
  low_names =
      let far : Far x is ≤ length (named x).names = far_named x is in
      let e : length (named x).names ≤ N0 = h.order.low in
      omega (arith, far, e)

  pub got : AreFetched T (loaded_value x d (work_of t)) d N0 operands (work_of t)
  got =
      fetched T (loaded_value x d (work_of t)) d N0 operands (work_of t)
      (each_all (CanFetch T (loaded_value x d (work_of t)) N0 d (work_of t)) can operands)
      (each_turns (IsBelow (length (edged x).names)) (IsBelow N0)
      (λ o lt. more_below (length (edged x).names) N0 o low_names lt) operands (h.token_low, (h.low, tt)))
      (let few = h.order.loads in
      let up = h.order.addresses in
      let all = h.copies_room in
      let long : length t.top.values ≡ length (framed x).names = old.names.room in
      omega (arith, few, up, all, long))

  abbrev pub W : Work
  W = got.work

  pub loads_run : Runs d Front (work_of t) W
  loads_run = got.runs

  pub same_world : W.world ≡ t.world
  same_world = got.sets.world

  pub same_room : length W.values ≡ length t.top.values
  same_room = got.sets.room

  pub low_stays : (v : ℕ) → v < N0 → value_in W.values v ≡ value_in t.top.values v
  low_stays v lt = got.sets.others v lt

  pub high_stays : (v : ℕ) → length (written x).names ≤ v → value_in W.values v ≡ value_in t.top.values v
  high_stays v le =
      still_others d v Front (work_of t) W still
      (not_set T v N0 operands (inr (let few = h.order.loads in omega (arith, few, le)))) loads_run

  -- begin is given the address of the block's mate
  pub value_there : operand_value d.code W.values facts.typed
      (fetched_operand T (next_after T N0 facts.id.value) facts.memory) ≡ pointer_to (B facts)
  value_there = got.seen.1.0 facts.typed ∙ by facts.memory refl
    where
      is_it : (v : Value) → IsValue r.homes (operand_value g.given.code s.top.values facts.typed facts.memory) v
          → v ≡ pointer_to (B facts)
      is_it v e =
          named_there r.homes (operand_value g.given.code s.top.values facts.typed facts.memory) v facts.block (B facts) e
          h.value (home_is facts)

      local : (v : ℕ) → facts.memory ≡ Operand.Local v → (o : Option Fetch) → fetch_of T (Operand.Local v) ≡ o
          → seen_by (loaded_value x d (work_of t)) d (work_of t) facts.typed (Operand.Local v) o ≡ pointer_to (B facts)
      local v same (Some f) e =
          let q = fetch_found x is v f e in
          is_it (loaded_value x d (work_of t) v)
          (subst
          (λ (m : Operand). IsValue r.homes (operand_value g.given.code s.top.values facts.typed m)
          (loaded_value x d (work_of t) v)) (sym same)
          (loaded_stands x is r.homes d s.top.values t.top (work_of t) old_cells.0 v q.kept
          (record { number = q.at; told = q.told; there = q.there })))
      local v same None e =
          is_it (value_in t.top.values v)
          (subst
          (λ (m : Operand). IsValue r.homes (operand_value g.given.code s.top.values facts.typed m)
          (value_in t.top.values v)) (sym same)
          (old.names.each v (asked x s.top s.top.mode v not_entering) (not_kept x is v e)
          (outside_of x v (ap (fetch_of (slot_table x)) (sym same) ∙ h.outside))))

      -- any other operand is a constant
      other : ((v : ℕ) → facts.memory ≡ Operand.Local v → ⊥)
          → IsValue r.homes (operand_value g.given.code s.top.values facts.typed facts.memory)
          (operand_value d.code t.top.values facts.typed facts.memory)
      other none =
          other_stands r.homes g.given.code b.given.given.code same_names
          (λ n lt. r.globals n (subst (λ (m : Module). n < length m.globals) given.code lt)) s.top.values t.top.values
          facts.memory none facts.typed

      constant : (o : Operand) → facts.memory ≡ o → ((v : ℕ) → o ≡ Operand.Local v → ⊥)
          → operand_value d.code t.top.values facts.typed o ≡ pointer_to (B facts)
      constant o same none =
          is_it (operand_value d.code t.top.values facts.typed o)
          (subst
          (λ (m : Operand). IsValue r.homes (operand_value g.given.code s.top.values facts.typed facts.memory)
          (operand_value d.code t.top.values facts.typed m)) same (other (λ v e. none v (sym same ∙ e))))

      by : (o : Operand) → facts.memory ≡ o
          → seen_of T (loaded_value x d (work_of t)) d (work_of t) facts.typed facts.memory ≡ pointer_to (B facts)
      by o same =
          ap (seen_of T (loaded_value x d (work_of t)) d (work_of t) facts.typed) same ∙ seen o same
        where
          seen : (o : Operand) → facts.memory ≡ o
              → seen_of T (loaded_value x d (work_of t)) d (work_of t) facts.typed o ≡ pointer_to (B facts)
          seen (Operand.Local v) same = local v same (fetch_of T (Operand.Local v)) refl
          seen (Operand.Global n) same = constant (Operand.Global n) same (λ v e. absurd (cc))
          seen (Operand.Number n) same = constant (Operand.Number n) same (λ v e. absurd (cc))
          seen Operand.True same = constant Operand.True same (λ v e. absurd (cc))
          seen Operand.False same = constant Operand.False same (λ v e. absurd (cc))
          seen Operand.Null same = constant Operand.Null same (λ v e. absurd (cc))
          seen Operand.None same = constant Operand.None same (λ v e. absurd (cc))
          seen Operand.Poison same = constant Operand.Poison same (λ v e. absurd (cc))
