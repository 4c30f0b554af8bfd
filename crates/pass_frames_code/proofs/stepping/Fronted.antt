-- Where operands of an instruction of a coroutine are fetched no name is set but new ones, and the states are related
-- as if nothing had been done.
use Rattle.std.proofs.Common.{◌≡◌, ◌⊎◌, inl, inr, ℕ, ◌<◌, ◌≤◌, false, true, List, length, refl, sym, ap, subst, arith}
use Rattle.std.proofs.lemmas.Bool.{cases_lt}
use Rattle.std.specs.Prelude.{None, Option, Some, slice_get}
use Rattle.pass_proofs.specs.ir_base.declared.outcome.Outcome.{Outcome}
use Rattle.pass_proofs.proofs.ir_laws.facts.Members.{each_joined, each_turns}
use Rattle.pass_proofs.specs.ir_model.Ty.{Ty, int}
use Rattle.pass_proofs.specs.ir_model.declared.instr.Instr.{Instr}
use Rattle.pass_proofs.specs.ir_model.declared.module.Module.{Module}
use Rattle.pass_proofs.specs.ir_parts.Contents.{instr_operands}
use Rattle.pass_proofs.specs.pass_cells.Cells.{fetches_of}
use Rattle.pass_proofs.specs.pass_cells.Kept.{entry}
use Rattle.pass_proofs.specs.pass_fetch.Fetching.{fetches_of_all}
use Rattle.pass_proofs.specs.pass_fetch.Instrs.{with_fetched}
use Rattle.pass_proofs.specs.pass_fetch.declared.fetch.Fetch.{Fetch}
use Rattle.pass_frames_code.proofs.led.Front.{all_still}
use Rattle.pass_frames_code.proofs.led.Steps.{still_others, still_through}
use Rattle.pass_frames_code.proofs.lined.Lines.{each_between, line_leads}
use Rattle.pass_frames_code.proofs.lines.Names.{distance_of}
use Rattle.pass_frames_code.proofs.lines.Results.{kept_is_cell}
use Rattle.pass_frames_code.proofs.stepping.After.{cell_turned, not_set, past_value}
use Rattle.pass_frames_code.proofs.stepping.Doing.{stand_there}
use Rattle.pass_frames_code.proofs.stepping.Fetch as fetching
use Rattle.pass_frames_code.proofs.stepping.Landing.{landed, landed_homes}
use Rattle.pass_frames_code.proofs.stepping.Names.{slots_new}
use Rattle.pass_frames_code.proofs.stepping.Operands.{asked}
use Rattle.pass_frames_code.proofs.stepping.Shown.{still_shown}
use Rattle.pass_frames_code.specs.Code.{address_state, load_name, slot_table}
use Rattle.pass_frames_code.specs.Followed.{IsOn}
use Rattle.pass_frames_code.specs.Framings.{IsFraming}
use Rattle.pass_frames_code.specs.Landing.{LeavesCells}
use Rattle.pass_frames_code.specs.Led.{IsLed, IsNotSet, IsStill, RunsThrough}
use Rattle.pass_frames_code.specs.Lined.{GivesNone, lined}
use Rattle.pass_frames_code.specs.Lines.{IsCellOf, at_work}
use Rattle.pass_frames_code.specs.Operands.{IsAtFetch}
use Rattle.pass_frames_code.specs.Places.{Framing, Placed, edged, framed, instrs_at, named, offsets, place, plan, written}
use Rattle.pass_frames_code.specs.Related.{AreBuiltOf, AreCellsRight, Building, IsDistanceOf}
use Rattle.pass_frames_code.specs.Stepping.{AreGiven, placed_front, placed_instr, state_in}
use Rattle.pass_proofs.specs.addresses.rules.Addresses.{lies_in_frame}
use Rattle.pass_renewed_proof.specs.Renewed.{RenewedGiven}
use Rattle.pass_proofs.specs.run_agreement.Machines.{iterate}
use Rattle.pass_proofs.specs.run_framed.Framed.{frame_rights, framed_context, framed_step}
use Rattle.pass_proofs.specs.run_laws.access.Lines.{StandAt}
use Rattle.pass_proofs.specs.run_laws.changed.Changed.{Each}
use Rattle.pass_proofs.specs.run_laws.memory.Pointers.{IsValue}
use Rattle.pass_proofs.specs.run_laws.transfer.Shapes.{InstrStays}
use Rattle.pass_proofs.specs.run_laws.transfer.Transfer.{AreOver, StandsFor}
use Rattle.pass_proofs.specs.run_memory.Memory.{Rights, owner_rights}
use Rattle.pass_proofs.specs.run_memory.declared.pointer.Value.{Value}
use Rattle.pass_proofs.specs.run_source.Source.{context_of}
use Rattle.pass_proofs.specs.run_source.State.{function_of, work_of}
use Rattle.pass_proofs.specs.run_source.declared.state.State.{State}
use Rattle.pass_proofs.specs.run_step.Step.{Context, Work}
use Rattle.pass_proofs.specs.run_step.Values.{value_in}
use Rattle.pass_proofs.specs.run_step.declared.world.World.{World}

still_gives : (m : Module) (i : Instr) → IsStill i → GivesNone m i
still_gives m (Instr.Load r ty p align) s = refl
still_gives m (Instr.Gep r inbounds ty p indices) s = refl
still_gives m _ s = absurd s

module _ (b : Building) (g : RenewedGiven) (given : AreGiven b g) (s t : State) (r : AreBuiltOf b s t) (i : Instr)
    (h : IsAtFetch b s i)
    (allocas : (at u align : ℕ) (ty : Ty)
    → slice_get (instrs_at (b.framing s.top.func) 0) at ≡ Some (Instr.Alloca u ty align)
    → u < length (edged (b.framing s.top.func)).names) where
  abbrev x : Framing
  x = b.framing s.top.func

  abbrev st : Placed
  st = state_in x s.top.block s.top.at

  abbrev n : ℕ
  n = load_name st

  abbrev m : ℕ
  m = (address_state st).0

  abbrev T : List (Option Fetch)
  T = fetches_of (plan x)

  abbrev d : Context
  d = framed_context b.given t

  abbrev R : Rights
  R = frame_rights b.given t.instances

  abbrev front : List Instr
  front = placed_front x st i

  is : IsFraming x
  is = given.framings s.top.func h.coroutine

  pub led : IsLed r.homes (context_of g.given s) d (work_of s) (work_of t) n i (placed_instr x st i) front
  led = fetching.led b g given s t r i h

  abbrev pub work : Work
  work = led.work

  pub led_seen : InstrStays (StandsFor true (IsValue r.homes) (context_of g.given s) d s.top.values work.values) i
      (placed_instr x st i)
  unfolding led
  led_seen = fetching.led_seen b g given s t r i h

  low : length (edged x).names ≤ n
  low = fetching.low b g given s t r i h

  front_still : Each IsStill front
  front_still =
      each_joined IsStill (fetches_of_all T n (instr_operands i))
      (fetches_of_all (slot_table x) m (instr_operands (with_fetched T n i))) (all_still T n (instr_operands i))
      (all_still (slot_table x) m (instr_operands (with_fetched T n i)))

  -- ---- what it leaves

  high : (u : ℕ) → length (written x).names ≤ u → u < m → value_in work.values u ≡ value_in t.top.values u
  high u le lt =
      still_others d u front (work_of t) work front_still
      (each_joined (IsNotSet u) (fetches_of_all T n (instr_operands i))
      (fetches_of_all (slot_table x) m (instr_operands (with_fetched T n i)))
      (not_set T u n (instr_operands i) (inr (let a = h.order.loads in omega (arith, a, le))))
      (not_set (slot_table x) u m (instr_operands (with_fetched T n i)) (inl lt))) led.runs

  cells : AreCellsRight x r.homes R t.world.memory s.top.values t.top
  cells = (fetching.cells b g given s t r i h).0

  cell_value : (u : ℕ) → IsCellOf x u → value_in work.values u ≡ value_in t.top.values u
  cell_value u of =
      led.sets.others u (let a = of.1 in let e : length (named x).names ≤ n = h.order.low in omega (arith, a, e))

  right_there : AreCellsRight x r.homes R t.world.memory s.top.values (at_work t.top work)
  right_there = record {
    values = λ u q kept.
        cell_turned R t.world.memory t.top (at_work t.top work) q.cell q.ty (IsValue r.homes
        (value_in s.top.values u)) refl
        (cell_value q.cell (kept_is_cell x is u q kept)) (cells.values u q kept);
    distances = λ u cell slot told root.
        cell_turned R t.world.memory t.top (at_work t.top work) cell (int 64)
        (IsDistanceOf (value_in s.top.values slot) (value_in s.top.values u)) refl
        (cell_value cell (distance_of x is u cell told)) (cells.distances u cell slot told root);
  }

  pub leaves : LeavesCells b s t r s.world s.top.values work
  leaves = record {
    source = refl;
    over = subst (λ (q : World). AreOver owner_rights R r.homes r.hides (λ k. k) s.world q) (sym led.sets.world)
        r.world;
    spares = record { same = λ e none. ap (λ (q : World). slice_get q.memory e) led.sets.world };
    right = subst (λ (q : World). AreCellsRight x r.homes R q.memory s.top.values (at_work t.top work))
        (sym led.sets.world) right_there;
    room = led.sets.room;
    names = λ u unkept out. by_name u unkept out (cases_lt u n);
    wheres = λ e listed.
        let z = h.order.slots e listed in
        let k = slots_new x e listed in (high e.cell k.1 z.1.1, high e.temporary k.0 z.1.0);
    allocas = λ at u align ty e.
        let lt = allocas at u align ty e in
        (lt, led.sets.others u (let a = low in omega (arith, lt, a)));
  }
    where
      by_name : (u : ℕ) → entry (plan x).places u ≡ None → lies_in_frame (offsets x) u ≡ false
          → (u < n) ⊎ (n ≤ u) → IsValue r.homes (value_in s.top.values u) (value_in work.values u)
      by_name u unkept out (inl lt) =
          subst (IsValue r.homes (value_in s.top.values u)) (sym (led.sets.others u lt))
          ((fetching.values b g given s t r i h).names.each u (asked x s.top s.top.mode u h.mode) unkept out)
      by_name u unkept out (inr le) =
          subst (λ (q : Value). IsValue r.homes q (value_in work.values u))
          (sym (past_value s.top.values u (let a = h.room in let e = low in omega (arith, a, e, le)))) tt

  -- the framed state with what is fetched, as if it stood where it did
  abbrev pub fetched_state : State
  fetched_state = record t { world = work.world; top = record t.top { values = work.values } }

  pub fetched_related : AreBuiltOf b s fetched_state
  fetched_related =
      landed b s t r given.framings h.coroutine h.mode h.unreturned s.world s.top.values work leaves s.top.block
      s.top.at t.top.block t.top.at h.unreturned (λ zero. (zero, same s.top.at)) r.top.place
    where
      same : (k : ℕ) → k ≤ k
      same k = omega arith

  pub same_homes : fetched_related.homes ≡ r.homes
  unfolding fetched_related
  same_homes = landed_homes b s t r given.framings h.coroutine h.mode
      h.unreturned s.world s.top.values work leaves s.top.block s.top.at t.top.block t.top.at h.unreturned
      (λ zero. (zero, same s.top.at)) r.top.place
    where
      same : (k : ℕ) → k ≤ k
      same k = omega arith

  pub same_world : work.world ≡ t.world
  same_world = led.sets.world

  -- ---- it is executed

  module _ (runs : t.outcome ≡ Outcome.Running)
      (stand : StandAt (framed x) s.top.block (place x (record { block = s.top.block; at = s.top.at })).at front) where
    abbrev P : Work → Type 0
    P u = u.world ≡ t.world

    through : RunsThrough d P front (work_of t) work
    through = still_through d P (work_of t) (λ u e. e) front (work_of t) work front_still refl led.runs

    none : Each (GivesNone b.given.given.code) front
    none = each_turns IsStill (GivesNone b.given.given.code) (still_gives b.given.given.code) front front_still

    there : StandAt (function_of b.given.given t) t.top.block t.top.at front
    there = stand_there b g given s t r i h front stand

    pub fetches_lead : iterate (framed_step b.given) (length front) t ≡ lined t (length front) work
    fetches_lead = line_leads b.given t P front work runs there none through

    pub fetches_shown : (k : ℕ) → k < length front → IsOn b s (iterate (framed_step b.given) k t)
    fetches_shown k lt =
        let z = each_between b.given t P front work runs there none through k lt in
        subst (IsOn b s) (sym z.1.0) (still_shown b s t r given.framings runs k z.0 z.1.1)

    pub last_shown : IsOn b s (lined t (length front) work)
    last_shown = still_shown b s t r given.framings runs (length front) work led.sets.world
