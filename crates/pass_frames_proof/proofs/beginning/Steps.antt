-- Both runs execute begin: the framed one loads its memory before, where a cell keeps it.
use Rattle.std.proofs.Common.{◌≡◌, ◌+◌, ◌-◌, ◌∷◌, ◌++◌, ◌∙◌, [], Bool, List, None, Ok, Option, Some, ap, append-nil, arith, false, length, not, refl, subst, sym, true, ℕ}
use Rattle.std.specs.Prelude.{filter, if◌then◌else◌, is_none, slice_get, slice_set}
use Rattle.pass_frames_steps.specs.flow_solver.Paths.{IsListed}
use Rattle.pass_frames_steps.proofs.ir_laws.facts.Members.{each_turns}
use Rattle.pass_frames_steps.specs.ir_base.declared.cause.Cause.{Cause}
use Rattle.pass_frames_steps.specs.ir_base.declared.outcome.Outcome.{Outcome}
use Rattle.pass_frames_steps.specs.ir_model.Names.{function_at}
use Rattle.pass_frames_steps.specs.ir_model.declared.instr.Instr.{Instr}
use Rattle.pass_frames_steps.specs.ir_model.declared.module.Frame.{Frame}
use Rattle.pass_frames_steps.specs.ir_model.declared.module.Function.{Function}
use Rattle.pass_frames_steps.specs.ir_model.declared.operand.Arg.{Arg}
use Rattle.pass_frames_steps.specs.ir_model.declared.operand.Intrinsic.{Intrinsic}
use Rattle.pass_frames_steps.specs.ir_paths.declared.point.Point.{Point}
use Rattle.pass_frames_steps.specs.pass_cells.Cells.{fetches_of}
use Rattle.pass_frames_steps.specs.pass_fetch.Fetching.{fetched_args}
use Rattle.pass_frames_steps.proofs.allocating.Grown.{listed_in}
use Rattle.pass_frames_proof.proofs.beginning.Becoming.{line_becomes, line_no_alloca, still_gives}
use Rattle.pass_frames_proof.proofs.beginning.Given.{Begins}
use Rattle.pass_frames_proof.proofs.beginning.Loads.{Front, I, Line, M0, N0, One, W, is, loads_run, not_entering, same_world, still, unkept, value_there}
use Rattle.pass_frames_proof.proofs.beginning.Places.{B, N, X, filter_all, filter_none, mate, own, size, ys}
use Rattle.pass_frames_steps.proofs.lined.Lines.{framed_does, line_last}
use Rattle.pass_frames_steps.proofs.saving.Stepped.{stand_split}
use Rattle.pass_frames_steps.proofs.stepping.Codes.{code_stands, instr_there}
use Rattle.pass_frames_steps.proofs.stepping.Stands.{cost_is, renewed_does, top_is}
use Rattle.pass_frames_steps.specs.Beginning.{IsAtBegin}
use Rattle.pass_frames_steps.specs.Early.{copies_line}
use Rattle.pass_frames_steps.specs.Led.{IsStill}
use Rattle.pass_frames_steps.specs.Lined.{GivesNone}
use Rattle.pass_frames_steps.specs.Meaning.{action_at, coroutine_cost, other_cost, step_cost}
use Rattle.pass_frames_steps.specs.Places.{Framing, copies, edged, framed, place, plan}
use Rattle.pass_frames_steps.specs.Related.{AreBuiltOf, Building, point_of}
use Rattle.pass_frames_steps.specs.Stepping.{AreGiven, StandsInPlace}
use Rattle.pass_frames_steps.specs.pass_renewed_proof.Renewed.{RenewedGiven, renewed_step}
use Rattle.pass_frames_steps.specs.run_framed.Framed.{framed_begin, framed_step}
use Rattle.pass_frames_steps.specs.run_laws.access.Lines.{StandAt}
use Rattle.pass_frames_steps.specs.run_laws.changed.Changed.{Each}
use Rattle.pass_frames_steps.specs.run_memory.Memory.{check, may_be_owned, owned_to, with_block}
use Rattle.pass_frames_steps.specs.run_memory.declared.block.Kind.{Kind}
use Rattle.pass_frames_steps.specs.run_memory.declared.block.MemoryBlock.{MemoryBlock}
use Rattle.pass_frames_steps.specs.run_memory.declared.pointer.Value.{Value}
use Rattle.pass_frames_steps.specs.run_source.Source.{begin, begin_at, begun, context_of, is_among, new_instance}
use Rattle.pass_frames_steps.specs.run_source.State.{function_of, gives, or_undefined, own_facts, own_frame, with_memory, work_of}
use Rattle.pass_frames_steps.specs.run_source.declared.state.Activation.{Activation}
use Rattle.pass_frames_steps.specs.run_source.declared.state.Instance.{Instance}
use Rattle.pass_frames_steps.specs.run_source.declared.state.Mode.{Mode}
use Rattle.pass_frames_steps.specs.run_source.declared.state.State.{State}
use Rattle.pass_frames_steps.specs.run_source.declared.state.Status.{Status}
use Rattle.pass_frames_steps.specs.run_source_tables.Given.{Given, frame_of}
use Rattle.pass_frames_steps.specs.run_step.Results.{and_then, found, ok_if}
use Rattle.pass_frames_steps.specs.run_step.Runs.{iterate}
use Rattle.pass_frames_steps.specs.run_step.Step.{AtInstr, Coro, action_of, block_of, fetch}
use Rattle.pass_frames_steps.specs.run_step.Values.{arg_values, nth, pointer_to, with_result}
use Rattle.pass_frames_steps.specs.run_step.declared.world.Slot.{Slot}
use Rattle.pass_frames_steps.specs.run_step.declared.world.World.{World}

-- ---- lists

set_last : {C : Type 0} (xs : List C) (x z : C) → slice_set (xs ++ x ∷ []) (length xs) z ≡ xs ++ z ∷ []
set_last [] x z = refl
set_last (y ∷ xs) x z = ap (λ (ys : List _). y ∷ ys) (set_last xs x z)

-- ---- what begin makes of a state

module _ (g : Given) (s : State) (result : Option ℕ) (block : ℕ) where
  abbrev pub ramps : List ℕ
  ramps = (own_facts g s).ramp_slots

  abbrev pub instance_slots : List Slot
  instance_slots = filter (λ slot. not (is_among ramps slot)) s.top.slots ++ []

  abbrev pub top_slots : List Slot
  top_slots = filter (is_among ramps) s.top.slots ++ []

  abbrev pub made : Instance
  made = record (new_instance s.top.func block 0) { slots = instance_slots }

  abbrev pub begun_top : Activation
  begun_top = record s.top {
    at = s.top.at + 1;
    values = with_result s.top.values result (pointer_to block);
    slots = top_slots;
    instance = Some (length s.instances);
  }

  abbrev pub owned_memory : List MemoryBlock
  owned_memory = with_block s.world.memory block (owned_to (own_frame g s).size)

  abbrev pub begun_of : List Instance → State
  begun_of xs = record s {
    world = record s.world { memory = owned_memory };
    instances = xs;
    top = begun_top;
  }

  pub begin_gives : s.top.instance ≡ None
      → may_be_owned Kind.Allocator (own_frame g s).size (slice_get s.world.memory block) ≡ true
      → or_undefined g s (begin g s result (pointer_to block)) ≡ begun_of (s.instances ++ made ∷ [])
  begin_gives none may =
      ap (λ (o : Option ℕ). or_undefined g s (and_then (ok_if (is_none o) Cause.Begin s) (λ s1.
      and_then (begin_at g s1 (pointer_to block) Kind.Allocator) (λ s2. Ok (gives s2 result (pointer_to block)))))) none
      ∙ ap (λ (c : Bool). or_undefined g s (and_then (and_then (check c Cause.Begin (Ok owned_memory)) (λ m.
      and_then (found Cause.Begin (block_of (pointer_to block))) (λ q. Ok (begun g (with_memory s m) q 0))))
      (λ s2. Ok (gives s2 result (pointer_to block))))) may
      ∙ ap begun_of (set_last s.instances (new_instance s.top.func block 0) made)

-- ---- the steps

module _ (facts : Begins) where
  abbrev b : Building
  b = facts.b

  abbrev gg : RenewedGiven
  gg = facts.g

  abbrev given : AreGiven b gg
  given = facts.given

  abbrev ss : State
  ss = facts.s

  abbrev t : State
  t = facts.t

  abbrev r : AreBuiltOf b ss t
  r = facts.r

  abbrev h : IsAtBegin b gg ss facts.result facts.must_tail facts.ty facts.id facts.typed facts.memory facts.block
  h = facts.h

  abbrev x : Framing
  x = X facts

  abbrev k : ℕ
  k = B facts

  abbrev pub args : List Arg
  args = facts.id ∷ record { ty = facts.typed; value = facts.memory } ∷ []

  abbrev now : List Arg
  now = fetched_args (fetches_of (plan x)) (N0 facts) args

  abbrev pub Copies : List Instr
  Copies = copies_line x ss.top.block (M0 facts) (copies x).slots

  pub stands_here : StandsInPlace x ss.top.block ss.top.at (Line facts)
  stands_here =
      code_stands x ss.top.block ss.top.at (I facts) (Line facts) h.there
      (line_becomes x (is facts) ss.top.block ss.top.at facts.result facts.must_tail facts.ty facts.id facts.typed
      facts.memory h.there h.token h.outside h.order.low (unkept facts))
      (line_no_alloca x (is facts) ss.top.block ss.top.at facts.result facts.must_tail facts.ty facts.id facts.typed
      facts.memory h.there h.token h.outside h.order.low (unkept facts)) h.unreturned

  abbrev pub here : Point
  here = record { block = ss.top.block; at = ss.top.at }

  pub at_place : point_of t.top ≡ place x here
  at_place = r.top.place ∙ top_is b ss.top h.coroutine (not_entering facts)

  code_framed : function_of b.given.given t ≡ framed x
  code_framed =
      (λ m. function_at (given.code m) (r.top.func m)) ∙ (given.built.coroutines ss.top.func h.coroutine).is

  stand_here : StandAt (function_of b.given.given t) t.top.block t.top.at (Line facts)
  stand_here =
      subst (λ (f : Function). StandAt f t.top.block t.top.at (Line facts)) (sym code_framed)
      (subst (λ (p : Point). StandAt (framed x) p.block p.at (Line facts)) (sym at_place) stands_here.0)

  pub parted : StandAt (function_of b.given.given t) t.top.block t.top.at (Front facts)
      × StandAt (function_of b.given.given t) t.top.block (t.top.at + length (Front facts)) (One facts ∷ Copies)
  parted = stand_split (function_of b.given.given t) t.top.block t.top.at (Front facts) (One facts ∷ Copies) stand_here

  pub runs_there : t.outcome ≡ Outcome.Running
  runs_there = r.outcome ∙ h.runs

  -- ---- what is loaded

  abbrev pub tL : State
  tL = record t { top = record t.top { at = t.top.at + length (Front facts); values = (W facts).values } }

  pub loads_gives : Each (GivesNone b.given.given.code) (Front facts)
  loads_gives =
      each_turns IsStill (GivesNone b.given.given.code) (still_gives b.given.given.code) (Front facts) (still facts)

  pub loads_lead : iterate (framed_step b.given) (length (Front facts)) t ≡ tL
  loads_lead =
      line_last b.given t (Front facts) (W facts) runs_there parted.0 loads_gives (loads_run facts)
      ∙ ap (λ (w : World). record t {
        world = w;
        top = record t.top { at = t.top.at + length (Front facts); values = (W facts).values };
      }) (same_world facts)

  -- ---- the first run

  pub source_fetched : fetch (function_of gg.given ss) ss.top.block ss.top.at ≡ AtInstr (I facts)
  source_fetched =
      ap (λ (f : Function). fetch f ss.top.block ss.top.at) (given.coroutines ss.top.func h.coroutine)
      ∙ instr_there (edged x) ss.top.block ss.top.at (I facts) h.there

  pub source_is : renewed_step gg ss
      ≡ begun_of gg.given ss facts.result facts.block
      (ss.instances ++ made gg.given ss facts.result facts.block ∷ [])
  source_is =
      renewed_does gg ss (AtInstr (I facts)) (Coro Intrinsic.CoroBegin args facts.result) h.runs source_fetched refl refl
      ∙ ap (λ (v : Value). or_undefined gg.given ss (begin gg.given ss facts.result v)) h.value
      ∙ begin_gives gg.given ss facts.result facts.block h.none h.may

  -- ---- the framed one

  pub sized : (own_frame b.given.given t).size ≡ size facts
  sized = ap (λ (f : ℕ). (frame_of b.given.given.sizes f).size) r.top.func ∙ ap (λ (z : Frame). z.size) h.sizes

  may_there : may_be_owned Kind.Allocator (own_frame b.given.given t).size (slice_get t.world.memory k) ≡ true
  may_there =
      (λ m. may_be_owned Kind.Allocator (sized m) ((mate facts).1 m))
      ∙ ap (may_be_owned Kind.Allocator (own_frame gg.given ss).size) (sym (own facts).there)
      ∙ h.may

  target_is : framed_step b.given tL
      ≡ begun_of b.given.given tL facts.result k (t.instances ++ made b.given.given tL facts.result k ∷ [])
  target_is =
      framed_does b.given tL (AtInstr (One facts)) (Coro Intrinsic.CoroBegin now facts.result) runs_there parted.1.0
      refl refl
      ∙ ap (λ (m : Mode). or_undefined b.given.given tL
      (framed_begin b.given tL facts.result (nth (arg_values b.given.given.code (W facts).values now) 1) m))
      (r.top.mode ∙ h.ramp)
      ∙ ap (λ (v : Value). or_undefined b.given.given tL (begin b.given.given tL facts.result v)) (value_there facts)
      ∙ begin_gives b.given.given tL facts.result k (r.top.instance ∙ h.none) may_there

  own_ramp : (slot : Slot) → IsListed slot t.top.slots → is_among (own_facts b.given.given t).ramp_slots slot ≡ true
  own_ramp slot l = facts.theirs.own slot (listed_in t.top.slots slot l)

  slots_there : top_slots b.given.given tL facts.result k ≡ t.top.slots
  slots_there =
      append-nil (filter (is_among (own_facts b.given.given t).ramp_slots) t.top.slots)
      ∙ filter_all (is_among (own_facts b.given.given t).ramp_slots) t.top.slots own_ramp

  none_there : instance_slots b.given.given tL facts.result k ≡ []
  none_there =
      append-nil (filter (λ slot. not (is_among (own_facts b.given.given t).ramp_slots slot)) t.top.slots)
      ∙ filter_none (λ slot. not (is_among (own_facts b.given.given t).ramp_slots slot)) t.top.slots
      (λ slot l. ap not (own_ramp slot l))

  abbrev pub c' : Activation
  c' = record t.top {
    at = t.top.at + length (Front facts) + 1;
    values = with_result (W facts).values facts.result (pointer_to k);
    instance = Some (length t.instances);
  }

  abbrev pub u : World
  u = record t.world { memory = N facts }

  -- right behind begin
  abbrev pub tB : State
  tB = record t { world = u; instances = ys facts; top = c' }

  pub begin_is : framed_step b.given tL ≡ tB
  begin_is =
      target_is
      ∙ (λ m. record t {
        world = record t.world { memory = with_block t.world.memory k (owned_to (sized m)) };
        instances = t.instances ++ record {
          coroutine = r.top.func m;
          block = k;
          start = 0;
          slots = none_there m;
          status = Status.Running;
          last_save = None;
          released = false;
          freed = false;
        } ∷ [];
        top = record t.top {
          at = t.top.at + length (Front facts) + 1;
          values = with_result (W facts).values facts.result (pointer_to k);
          slots = slots_there m;
          instance = Some (length t.instances);
        };
      })

  -- what it costs
  pub cost : step_cost b gg ss ss.top.mode ≡ length (Line facts)
  cost =
      cost_is b gg ss ss.top.mode (not_entering facts)
      ∙ ap (λ (c : Bool). if c then coroutine_cost b gg ss (action_at gg ss) else other_cost b gg ss (action_at gg ss))
      h.coroutine
      ∙ ap (coroutine_cost b gg ss) (ap (action_of (context_of gg.given ss) (work_of ss)) source_fetched)
      ∙ ap (λ (n : ℕ). n - (place x here).at) stands_here.1
      ∙ behind (place x here).at (length (Line facts))
    where
      behind : (a len : ℕ) → (a + len) - a ≡ len
      behind a len = omega arith
