-- A function resumes or destroys a coroutine, and both runs wake it. Where it is a coroutine, the operand is fetched in
-- front of the call.
use Rattle.std.proofs.Common.{◌≡◌, ◌+◌, ◌-◌, ◌<◌, ◌∙◌, if◌then◌else◌, Bool, List, Ok, Option, Result, ap, arith, false, length, not, refl, subst, suc, sym, true, ℕ}
use Rattle.std.specs.List.{Contains}
use Rattle.pass_frames_steps.specs.ir_base.declared.cause.Cause.{Cause}
use Rattle.pass_frames_steps.specs.ir_base.declared.outcome.Outcome.{Outcome}
use Rattle.pass_frames_steps.specs.ir_model.Names.{function_at}
use Rattle.pass_frames_steps.specs.ir_model.declared.instr.Instr.{Instr}
use Rattle.pass_frames_steps.specs.ir_model.declared.module.Function.{Function}
use Rattle.pass_frames_steps.specs.ir_model.declared.operand.Arg.{Arg}
use Rattle.pass_frames_steps.specs.ir_model.declared.operand.Callee.{Callee}
use Rattle.pass_frames_steps.specs.ir_model.declared.operand.Intrinsic.{Intrinsic}
use Rattle.pass_frames_steps.specs.ir_paths.Windows.{destroy_label, resume_label}
use Rattle.pass_frames_steps.specs.ir_paths.declared.point.Point.{Point}
use Rattle.pass_frames_steps.specs.pass_cells.Cells.{fetches_of}
use Rattle.pass_frames_steps.specs.pass_fetch.Fetching.{fetched_args}
use Rattle.pass_frames_steps.proofs.asking.Finals.{final_same}
use Rattle.pass_frames_steps.proofs.asking.Found.{sleeper_found}
use Rattle.pass_frames_steps.proofs.asking.Others.{nth_stands}
use Rattle.pass_frames_proof.proofs.calling.Passed.{passed_on}
use Rattle.pass_frames_steps.proofs.followed.Assembly.{shown_alike}
use Rattle.pass_frames_steps.proofs.here.Intrinsics.{call_args, pair_stands}
use Rattle.pass_frames_steps.proofs.lined.Lines.{framed_does}
use Rattle.pass_frames_proof.proofs.returning.Behind.{CallStands, call_stands}
use Rattle.pass_frames_proof.proofs.returning.Turned.{placed_at}
use Rattle.pass_frames_steps.proofs.stepping.Doing.{at_place, code_framed, fetched_is}
use Rattle.pass_frames_steps.proofs.stepping.Fronted as fronted
use Rattle.pass_frames_steps.proofs.stepping.Other.{fetched_there, here_is}
use Rattle.pass_frames_steps.proofs.stepping.Stands.{cost_is, renewed_does}
use Rattle.pass_frames_proof.proofs.waking.Entered.{entered_followed}
use Rattle.pass_frames_proof.proofs.waking.Labels.{labels_same}
use Rattle.pass_frames_proof.proofs.waking.Woken.{woken_followed}
use Rattle.pass_frames_steps.specs.Asking.{IsSleeperBeside}
use Rattle.pass_frames_steps.specs.Code.{address_state, load_name, slot_table}
use Rattle.pass_frames_steps.specs.Followed.{IsFollowed, IsOn}
use Rattle.pass_frames_steps.specs.Framings.{IsFraming}
use Rattle.pass_frames_steps.specs.Meaning.{action_at, coroutine_cost, other_cost, own_cost, sleeper_by, step_cost, woken_cost}
use Rattle.pass_frames_steps.specs.Places.{Framing, Placed, edged, framed, is_return, own_place, place, plan}
use Rattle.pass_frames_steps.specs.Related.{AreBuiltOf, Building, all_slots, behind_place, below_place, is_coroutine, point_of}
use Rattle.pass_frames_steps.specs.Returning.{SwitchesTo}
use Rattle.pass_frames_steps.specs.Stepping.{AreGiven, IsNotEntering, placed_front, placed_instr, state_in}
use Rattle.pass_frames_steps.specs.Waking.{AreWoken, HasFirstAnew, HasNoneAnew, IsAtOwnWaking, IsAtWaking, IsSleeping, IsUnfinal, IsWaking, wake_call}
use Rattle.pass_frames_steps.specs.pass_kept_proof.Kept.{kept}
use Rattle.pass_frames_steps.specs.pass_renewed_proof.Renewed.{RenewedGiven, continue_renewed, renewed_step}
use Rattle.pass_frames_steps.specs.run_agreement.Machines.{iterate}
use Rattle.pass_frames_steps.specs.run_framed.Framed.{continue_framed, framed_context, framed_step}
use Rattle.pass_frames_steps.specs.run_laws.memory.Pointers.{Home, IsValue}
use Rattle.pass_frames_steps.specs.run_laws.transfer.Transfer.{StandsFor}
use Rattle.pass_frames_steps.specs.run_memory.declared.block.MemoryBlock.{MemoryBlock}
use Rattle.pass_frames_steps.specs.run_memory.declared.pointer.Value.{Value}
use Rattle.pass_frames_steps.specs.run_source.Source.{Sleeper, context_of, sleeper_at}
use Rattle.pass_frames_steps.specs.run_source.State.{function_of, or_undefined, work_of}
use Rattle.pass_frames_steps.specs.run_source.declared.state.State.{State}
use Rattle.pass_frames_steps.specs.run_source_tables.Given.{is_final}
use Rattle.pass_frames_steps.specs.run_step.Results.{and_then, ok_if}
use Rattle.pass_frames_steps.specs.run_step.Step.{AtInstr, Context, Coro, Work, action_of, fetch, intrinsic_call}
use Rattle.pass_frames_steps.specs.run_step.Values.{arg_values, nth}
use Rattle.pass_frames_steps.specs.run_step.declared.world.Slot.{Slot}
use Rattle.pass_frames_steps.specs.run_step.declared.world.World.{World}

-- ---- what resumes and destroys have in common

record Wakes (b : Building) (g : RenewedGiven) (s : State) (intrinsic : Intrinsic) : Type 0 where
  switches : SwitchesTo (Callee.Intrinsic intrinsic)
  acts : (c : Context) (w : Work) (result : Option ℕ) (args : List Arg) (vs : List Value)
      → intrinsic_call c w intrinsic result args vs ≡ Coro intrinsic args result
  own : (args : List Arg) (result : Option ℕ) → coroutine_cost b g s (Coro intrinsic args result)
      ≡ own_cost (b.framing s.top.func) (point_of s.top) + woken_cost b g (sleeper_by g s (Coro intrinsic args result))
  other : (args : List Arg) (result : Option ℕ) → other_cost b g s (Coro intrinsic args result)
      ≡ 1 + woken_cost b g (sleeper_by g s (Coro intrinsic args result))

resume_wakes : (b : Building) (g : RenewedGiven) (s : State) → Wakes b g s Intrinsic.CoroResume
resume_wakes b g s = record {
  switches = tt;
  acts = λ c w result args vs. refl;
  own = λ args result. refl;
  other = λ args result. refl;
}

destroy_wakes : (b : Building) (g : RenewedGiven) (s : State) → Wakes b g s Intrinsic.CoroDestroy
destroy_wakes b g s = record {
  switches = tt;
  acts = λ c w result args vs. refl;
  own = λ args result. refl;
  other = λ args result. refl;
}

-- ---- the framed run comes to the call

module _ (b : Building) (g : RenewedGiven) (s t : State) (label : ℕ) (z : IsSleeping b g s label)
    (intrinsic : Intrinsic) (leads : Function → Point → ℕ) (w : IsWaking b g s t label z intrinsic leads) where
  -- what it looks for stands for what the first run looks for
  pub record Comes : Type 0 where
    calm : is_coroutine b s.top.func ≡ true
        → IsNotEntering s.top.mode × (is_return (b.framing s.top.func) s.top.block ≡ false)
    fetches : ℕ
    state : State
    related : AreBuiltOf b s state
    call : Point
    behind : record { block = call.block; at = call.at + 1 } ≡ below_place b (passed_on s.top)
    leads_on : iterate (framed_step b.given) fetches t ≡ record state { top = placed_at state.top call }
    shown : (i : ℕ) → i < fetches → IsOn b s (iterate (framed_step b.given) i t)
    last_shown : IsOn b s (record state { top = placed_at state.top call })
    now : List Arg
    there : fetch (function_of g.given s) s.top.block s.top.at
        ≡ AtInstr (wake_call intrinsic w.result w.must_tail w.ty w.args)
    there_too : fetch (function_of b.given.given state) call.block call.at
        ≡ AtInstr (wake_call intrinsic w.result w.must_tail w.ty now)
    stands : IsValue related.homes (nth (arg_values g.given.code s.top.values w.args) 0)
        (nth (arg_values b.given.given.code state.top.values now) 0)
    cost : step_cost b g s s.top.mode
        ≡ fetches + 1 + woken_cost b g (sleeper_by g s (Coro intrinsic w.args w.result))
    slots : all_slots state ≡ all_slots t
    memory : state.world.memory ≡ t.world.memory

-- a function that is no coroutine is there
module _ (b : Building) (g : RenewedGiven) (given : AreGiven b g) (s t : State) (r : AreBuiltOf b s t) (label : ℕ)
    (z : IsSleeping b g s label) (intrinsic : Intrinsic) (leads : Function → Point → ℕ)
    (h : IsAtWaking b g s t label z intrinsic leads) (wakes : Wakes b g s intrinsic) where
  abbrev w : IsWaking b g s t label z intrinsic leads
  w = h.wakes

  place_is : ◌≡◌ {A = Point} (record { block = t.top.block; at = t.top.at + 1 }) (below_place b (passed_on s.top))
  place_is =
      ap (λ (p : Point). record { block = p.block; at = p.at + 1 }) (here_is b g given s t r h.plain w.runs h.mode)
      ∙ sym (ap (λ (q : Bool). if q then record {
        block = s.top.block;
        at = behind_place (b.framing s.top.func) s.top.block (s.top.at + 1);
      } else point_of (passed_on s.top)) h.plain)

  other_comes : Comes b g s t label z intrinsic leads w
  other_comes = record {
    calm = λ is. let no : true ≡ false = sym is ∙ h.plain in absurd (cc);
    fetches = 0;
    state = t;
    related = r;
    call = point_of t.top;
    behind = place_is;
    leads_on = refl;
    shown = λ j lt. absurd (none j lt);
    last_shown = record { running = r.outcome ∙ w.runs; shown = shown_alike b s t r };
    now = w.args;
    there = h.there;
    there_too = fetched_there b g given s t r h.plain w.runs h.mode
        (AtInstr (wake_call intrinsic w.result w.must_tail w.ty w.args)) h.there;
    stands = nth_stands b g given s t r h.plain w.runs h.mode w.args 0;
    cost =
        cost_is b g s s.top.mode h.mode
        ∙ ap (λ (q : Bool). if q then coroutine_cost b g s (action_at g s) else other_cost b g s (action_at g s))
        h.plain
        ∙ ap (other_cost b g s)
        (ap (action_of (context_of g.given s) (work_of s)) h.there
        ∙ wakes.acts (context_of g.given s) (work_of s) w.result w.args (arg_values g.given.code s.top.values w.args))
        ∙ wakes.other w.args w.result;
    slots = refl;
    memory = refl;
  }
    where
      none : (j : ℕ) → j < 0 → ⊥
      none j lt = omega arith

-- and so is a coroutine
module _ (b : Building) (g : RenewedGiven) (given : AreGiven b g) (s t : State) (r : AreBuiltOf b s t) (label : ℕ)
    (z : IsSleeping b g s label) (intrinsic : Intrinsic) (leads : Function → Point → ℕ)
    (h : IsAtOwnWaking b g s t label z intrinsic leads) (wakes : Wakes b g s intrinsic) where
  abbrev w2 : IsWaking b g s t label z intrinsic leads
  w2 = h.wakes

  abbrev i : Instr
  i = wake_call intrinsic w2.result w2.must_tail w2.ty w2.args

  abbrev x : Framing
  x = b.framing s.top.func

  abbrev st : Placed
  st = state_in x s.top.block s.top.at

  abbrev front : List Instr
  front = placed_front x st i

  abbrev fetched_now : List Arg
  fetched_now =
      fetched_args (slot_table x) (address_state st).0 (fetched_args (fetches_of (plan x)) (load_name st) w2.args)

  abbrev work : Work
  work = fronted.work b g given s t r i h.at h.allocas

  is : IsFraming x
  is = given.framings s.top.func h.at.coroutine

  abbrev here : Point
  here = record { block = s.top.block; at = s.top.at }

  running : t.outcome ≡ Outcome.Running
  running = r.outcome ∙ w2.runs

  code : CallStands x s.top.block s.top.at i
  code = call_stands x is s.top.block s.top.at i h.at.there h.at.unreturned wakes.switches h.unlocated

  own_is : ◌≡◌ {A = Point} (record { block = t.top.block; at = t.top.at + length front }) (own_place x here)
  own_is =
      ap (λ (p : Point). record { block = p.block; at = p.at + length front }) (at_place b g given s t r i h.at)
      ∙ ap (λ (n : ℕ). record { block = s.top.block; at = n }) (sym code.own)

  behind_is : below_place b (passed_on s.top) ≡ record { block = s.top.block; at = (own_place x here).at + 1 }
  behind_is =
      ap (λ (q : Bool). if q then record { block = s.top.block; at = behind_place x s.top.block (s.top.at + 1) }
      else point_of (passed_on s.top)) h.at.coroutine
      ∙ ap (λ (n : ℕ). record { block = s.top.block; at = behind_place x s.top.block n }) (next s.top.at)
    where
      next : (n : ℕ) → n + 1 ≡ suc n
      next n = omega arith

  at_call : fetch (function_of b.given.given t) t.top.block (t.top.at + length front)
      ≡ AtInstr (wake_call intrinsic w2.result w2.must_tail w2.ty fetched_now)
  at_call =
      ap (λ (f : Function). fetch f t.top.block (t.top.at + length front)) (code_framed b g given s t r i h.at)
      ∙ ap (λ (p : Point). fetch (framed x) p.block p.at) own_is ∙ code.there

  same_homes : (fronted.fetched_related b g given s t r i h.at h.allocas).homes ≡ r.homes
  same_homes = fronted.same_homes b g given s t r i h.at h.allocas

  seen : IsValue r.homes (nth (arg_values g.given.code s.top.values w2.args) 0)
      (nth (arg_values b.given.given.code work.values fetched_now) 0)
  seen =
      pair_stands r.homes (context_of g.given s) (framed_context b.given t) s.top.values work.values w2.args fetched_now
      (call_args (StandsFor true (IsValue r.homes) (context_of g.given s) (framed_context b.given t) s.top.values
      work.values) i (placed_instr x st i) (fronted.led_seen b g given s t r i h.at h.allocas) w2.result w2.result
      w2.must_tail w2.must_tail w2.ty w2.ty (Callee.Intrinsic intrinsic) (Callee.Intrinsic intrinsic) w2.args
      fetched_now refl refl) 0

  coroutine_comes : Comes b g s t label z intrinsic leads w2
  coroutine_comes = record {
    calm = λ is. (h.at.mode, h.at.unreturned);
    fetches = length front;
    state = fronted.fetched_state b g given s t r i h.at h.allocas;
    related = fronted.fetched_related b g given s t r i h.at h.allocas;
    call = record { block = t.top.block; at = t.top.at + length front };
    behind = ap (λ (p : Point). record { block = p.block; at = p.at + 1 }) own_is ∙ sym behind_is;
    leads_on = fronted.fetches_lead b g given s t r i h.at h.allocas running code.front;
    shown = fronted.fetches_shown b g given s t r i h.at h.allocas running code.front;
    last_shown = fronted.last_shown b g given s t r i h.at h.allocas running code.front;
    now = fetched_now;
    there = fetched_is b g given s t r i h.at;
    there_too = at_call;
    stands = subst (λ (q : List Home). IsValue q (nth (arg_values g.given.code s.top.values w2.args) 0)
        (nth (arg_values b.given.given.code work.values fetched_now) 0)) (sym same_homes) seen;
    cost =
        cost_is b g s s.top.mode h.at.mode
        ∙ ap (λ (q : Bool). if q then coroutine_cost b g s (action_at g s) else other_cost b g s (action_at g s))
        h.at.coroutine
        ∙ ap (coroutine_cost b g s)
        (ap (action_of (context_of g.given s) (work_of s)) (fetched_is b g given s t r i h.at)
        ∙ wakes.acts (context_of g.given s) (work_of s) w2.result w2.args
        (arg_values g.given.code s.top.values w2.args))
        ∙ wakes.own w2.args w2.result
        ∙ ap (λ (n : ℕ). n - (place x here).at + 1 + woken_cost b g (sleeper_by g s (Coro intrinsic w2.args w2.result)))
        code.own
        ∙ far (place x here).at (length front) (woken_cost b g (sleeper_by g s (Coro intrinsic w2.args w2.result)));
    slots = refl;
    memory = ap (λ (q : World). q.memory) (fronted.same_world b g given s t r i h.at h.allocas);
  }
    where
      far : (a n e : ℕ) → (a + n) - a + 1 + e ≡ n + 1 + e
      far a n e = omega arith

-- ---- both runs find it there

module _ (b : Building) (g : RenewedGiven) (given : AreGiven b g) (s t : State) (label : ℕ) (z : IsSleeping b g s label)
    (intrinsic : Intrinsic) (leads : Function → Point → ℕ) (w : IsWaking b g s t label z intrinsic leads)
    (wakes : Wakes b g s intrinsic) (c : Comes b g s t label z intrinsic leads w) where
  abbrev y : Framing
  y = b.framing z.instance.coroutine

  abbrev last : State
  last = record c.state { top = placed_at c.state.top c.call }

  beside : IsSleeperBeside b c.related.homes s c.state
      (record { number = z.number; instance = z.instance; suspend = z.suspend; values = z.env })
      (sleeper_at last (nth (arg_values b.given.given.code c.state.top.values c.now) 0))
  beside =
      sleeper_found b s c.state c.related w.placed (nth (arg_values g.given.code s.top.values w.args) 0)
      (nth (arg_values b.given.given.code c.state.top.values c.now) 0) c.stands
      (record { number = z.number; instance = z.instance; suspend = z.suspend; values = z.env }) w.finds

  finds_too : sleeper_at last (nth (arg_values b.given.given.code c.state.top.values c.now) 0)
      ≡ Ok (record {
        number = z.number;
        instance = beside.sleeper.instance;
        suspend = own_place y z.suspend;
        values = beside.sleeper.values;
      })
  finds_too =
      beside.is
      ∙ (λ j. Ok (record {
        number = beside.number j;
        instance = beside.sleeper.instance;
        suspend = beside.suspend j;
        values = beside.sleeper.values;
      }))

  source_code : function_at g.given.code z.instance.coroutine ≡ edged y
  source_code = given.coroutines z.instance.coroutine beside.instances.is_coroutine

  target_code : function_at b.given.given.code beside.sleeper.instance.coroutine ≡ framed y
  target_code =
      (λ j. function_at (given.code j) (beside.instances.coroutine j))
      ∙ (given.built.coroutines z.instance.coroutine beside.instances.is_coroutine).is

  running_there : c.state.outcome ≡ Outcome.Running
  running_there = c.related.outcome ∙ w.runs

  woken_by : renewed_step g s ≡ continue_renewed g s z.number z.instance z.suspend z.env label
      → framed_step b.given last
      ≡ continue_framed b.given last z.number beside.sleeper.instance (own_place y z.suspend) beside.sleeper.values
      label
      → AreWoken b g s t label z
  woken_by source target = record {
    runs = w.runs;
    calm = c.calm;
    fetches = c.fetches;
    last = last;
    leads = c.leads_on;
    shown = c.shown;
    last_shown = c.last_shown;
    state = c.state;
    related = c.related;
    call = c.call;
    behind = c.behind;
    beside = beside.sleeper.instance;
    there = beside.target;
    source = source;
    other = beside.sleeper.values;
    target = target;
    slots = λ slot e.
        subst (λ (m : List MemoryBlock). slot.block < length m) (sym c.memory)
        (w.slots slot (subst (λ (q : List Slot). Contains q slot) c.slots e));
    cost = c.cost ∙ ap (λ (q : Result Sleeper Cause). c.fetches + 1 + woken_cost b g q) w.finds;
  }

-- ---- resumes

module _ (b : Building) (g : RenewedGiven) (given : AreGiven b g) (s t : State) (label : ℕ) (z : IsSleeping b g s label)
    (w : IsWaking b g s t label z Intrinsic.CoroResume resume_label)
    (c : Comes b g s t label z Intrinsic.CoroResume resume_label w)
    (unfinal : IsUnfinal (b.framing z.instance.coroutine) z.suspend) where
  abbrev k : Intrinsic
  k = Intrinsic.CoroResume

  abbrev y2 : Framing
  y2 = b.framing z.instance.coroutine

  abbrev last2 : State
  last2 = last b g given s t label z k resume_label w (resume_wakes b g s) c

  abbrev there2 : IsSleeperBeside b c.related.homes s c.state
      (record { number = z.number; instance = z.instance; suspend = z.suspend; values = z.env })
      (sleeper_at last2 (nth (arg_values b.given.given.code c.state.top.values c.now) 0))
  there2 = beside b g given s t label z k resume_label w (resume_wakes b g s) c

  unfinal_too : is_final (framed y2) (own_place y2 z.suspend) ≡ false
  unfinal_too = final_same y2 there2.suspend_number z.suspend there2.numbered ∙ unfinal

  leads_too : resume_label (framed y2) (own_place y2 z.suspend) ≡ label
  leads_too =
      labels_same y2 (given.framings z.instance.coroutine there2.instances.is_coroutine) 0 there2.suspend_number z.suspend
      there2.numbered w.unreturned
      ∙ w.leads_to

  resumed_source : renewed_step g s ≡ continue_renewed g s z.number z.instance z.suspend z.env label
  resumed_source =
      renewed_does g s (AtInstr (wake_call k w.result w.must_tail w.ty w.args)) (Coro k w.args w.result) w.runs c.there
      refl refl
      ∙ ap (λ (o : Result Sleeper Cause). or_undefined g.given s (and_then o (λ (y : Sleeper).
      ok_if (not (is_final (function_at g.given.code y.instance.coroutine) y.suspend)) Cause.State
      (continue_renewed g s y.number y.instance y.suspend y.values
      (resume_label (function_at g.given.code y.instance.coroutine) y.suspend))))) w.finds
      ∙ ap (λ (f : Function). or_undefined g.given s (ok_if (not (is_final f z.suspend)) Cause.State
      (continue_renewed g s z.number z.instance z.suspend z.env (resume_label f z.suspend))))
      (source_code b g given s t label z k resume_label w (resume_wakes b g s) c)
      ∙ ap (λ (q : Bool). or_undefined g.given s (ok_if (not q) Cause.State
      (continue_renewed g s z.number z.instance z.suspend z.env (resume_label (edged y2) z.suspend)))) unfinal
      ∙ ap (continue_renewed g s z.number z.instance z.suspend z.env) w.leads_to

  resumed_target : framed_step b.given last2
      ≡ continue_framed b.given last2 z.number there2.sleeper.instance (own_place y2 z.suspend) there2.sleeper.values
      label
  resumed_target =
      framed_does b.given last2 (AtInstr (wake_call k w.result w.must_tail w.ty c.now)) (Coro k c.now w.result)
      (running_there b g given s t label z k resume_label w (resume_wakes b g s) c) c.there_too refl refl
      ∙ ap (λ (o : Result Sleeper Cause). or_undefined b.given.given last2 (and_then o (λ (y : Sleeper).
      ok_if (not (is_final (function_at b.given.given.code y.instance.coroutine) y.suspend)) Cause.State
      (continue_framed b.given last2 y.number y.instance y.suspend y.values
      (resume_label (function_at b.given.given.code y.instance.coroutine) y.suspend)))))
      (finds_too b g given s t label z k resume_label w (resume_wakes b g s) c)
      ∙ ap (λ (f : Function). or_undefined b.given.given last2 (ok_if (not (is_final f (own_place y2 z.suspend)))
      Cause.State
      (continue_framed b.given last2 z.number there2.sleeper.instance (own_place y2 z.suspend) there2.sleeper.values
      (resume_label f (own_place y2 z.suspend)))))
      (target_code b g given s t label z k resume_label w (resume_wakes b g s) c)
      ∙ ap (λ (q : Bool). or_undefined b.given.given last2 (ok_if (not q) Cause.State
      (continue_framed b.given last2 z.number there2.sleeper.instance (own_place y2 z.suspend) there2.sleeper.values
      (resume_label (framed y2) (own_place y2 z.suspend))))) unfinal_too
      ∙ ap (continue_framed b.given last2 z.number there2.sleeper.instance (own_place y2 z.suspend)
      there2.sleeper.values) leads_too

  resumed : AreWoken b g s t label z
  resumed =
      woken_by b g given s t label z k resume_label w (resume_wakes b g s) c resumed_source resumed_target

-- ---- destroys

module _ (b : Building) (g : RenewedGiven) (given : AreGiven b g) (s t : State) (label : ℕ) (z : IsSleeping b g s label)
    (w : IsWaking b g s t label z Intrinsic.CoroDestroy destroy_label)
    (c : Comes b g s t label z Intrinsic.CoroDestroy destroy_label w) where
  abbrev k3 : Intrinsic
  k3 = Intrinsic.CoroDestroy

  abbrev y3 : Framing
  y3 = b.framing z.instance.coroutine

  abbrev last3 : State
  last3 = last b g given s t label z k3 destroy_label w (destroy_wakes b g s) c

  abbrev there3 : IsSleeperBeside b c.related.homes s c.state
      (record { number = z.number; instance = z.instance; suspend = z.suspend; values = z.env })
      (sleeper_at last3 (nth (arg_values b.given.given.code c.state.top.values c.now) 0))
  there3 = beside b g given s t label z k3 destroy_label w (destroy_wakes b g s) c

  leads_there : destroy_label (framed y3) (own_place y3 z.suspend) ≡ label
  leads_there =
      labels_same y3 (given.framings z.instance.coroutine there3.instances.is_coroutine) 1 there3.suspend_number z.suspend
      there3.numbered w.unreturned
      ∙ w.leads_to

  destroyed_source : renewed_step g s ≡ continue_renewed g s z.number z.instance z.suspend z.env label
  destroyed_source =
      renewed_does g s (AtInstr (wake_call k3 w.result w.must_tail w.ty w.args)) (Coro k3 w.args w.result) w.runs
      c.there refl refl
      ∙ ap (λ (o : Result Sleeper Cause). or_undefined g.given s (and_then o (λ (y : Sleeper).
      Ok (continue_renewed g s y.number y.instance y.suspend y.values
      (destroy_label (function_at g.given.code y.instance.coroutine) y.suspend))))) w.finds
      ∙ ap (λ (f : Function). continue_renewed g s z.number z.instance z.suspend z.env (destroy_label f z.suspend))
      (source_code b g given s t label z k3 destroy_label w (destroy_wakes b g s) c)
      ∙ ap (continue_renewed g s z.number z.instance z.suspend z.env) w.leads_to

  destroyed_target : framed_step b.given last3
      ≡ continue_framed b.given last3 z.number there3.sleeper.instance (own_place y3 z.suspend) there3.sleeper.values
      label
  destroyed_target =
      framed_does b.given last3 (AtInstr (wake_call k3 w.result w.must_tail w.ty c.now)) (Coro k3 c.now w.result)
      (running_there b g given s t label z k3 destroy_label w (destroy_wakes b g s) c) c.there_too refl refl
      ∙ ap (λ (o : Result Sleeper Cause). or_undefined b.given.given last3 (and_then o (λ (y : Sleeper).
      Ok (continue_framed b.given last3 y.number y.instance y.suspend y.values
      (destroy_label (function_at b.given.given.code y.instance.coroutine) y.suspend)))))
      (finds_too b g given s t label z k3 destroy_label w (destroy_wakes b g s) c)
      ∙ ap (λ (f : Function). continue_framed b.given last3 z.number there3.sleeper.instance (own_place y3 z.suspend)
      there3.sleeper.values (destroy_label f (own_place y3 z.suspend)))
      (target_code b g given s t label z k3 destroy_label w (destroy_wakes b g s) c)
      ∙ ap (continue_framed b.given last3 z.number there3.sleeper.instance (own_place y3 z.suspend)
      there3.sleeper.values) leads_there

  destroyed : AreWoken b g s t label z
  destroyed =
      woken_by b g given s t label z k3 destroy_label w (destroy_wakes b g s) c destroyed_source destroyed_target

-- ---- by a function that is no coroutine, and by a coroutine

module _ (b : Building) (g : RenewedGiven) (given : AreGiven b g) (s t : State) (r : AreBuiltOf b s t) (label : ℕ)
    (z : IsSleeping b g s label) where
  abbrev First : Type 0
  First = HasFirstAnew b g z.instance.coroutine (kept (g.keep z.instance.coroutine z.suspend) z.env)

  abbrev Never : Type 0
  Never = HasNoneAnew b g z.instance.coroutine (kept (g.keep z.instance.coroutine z.suspend) z.env) label z.order

  module _ (h : IsAtWaking b g s t label z Intrinsic.CoroResume resume_label)
      (unfinal : IsUnfinal (b.framing z.instance.coroutine) z.suspend) where
    other_resumes : AreWoken b g s t label z
    other_resumes =
        resumed b g given s t label z h.wakes
        (other_comes b g given s t r label z Intrinsic.CoroResume resume_label h (resume_wakes b g s)) unfinal

    pub other_resume_followed : First → IsFollowed b g s t
    other_resume_followed = woken_followed b g given s t label z other_resumes

    pub other_resume_entered : Never → IsFollowed b g s t
    other_resume_entered = entered_followed b g given s t label z other_resumes

  module _ (h : IsAtWaking b g s t label z Intrinsic.CoroDestroy destroy_label) where
    other_destroys : AreWoken b g s t label z
    other_destroys =
        destroyed b g given s t label z h.wakes
        (other_comes b g given s t r label z Intrinsic.CoroDestroy destroy_label h (destroy_wakes b g s))

    pub other_destroy_followed : First → IsFollowed b g s t
    other_destroy_followed = woken_followed b g given s t label z other_destroys

    pub other_destroy_entered : Never → IsFollowed b g s t
    other_destroy_entered = entered_followed b g given s t label z other_destroys

  module _ (h : IsAtOwnWaking b g s t label z Intrinsic.CoroResume resume_label)
      (unfinal : IsUnfinal (b.framing z.instance.coroutine) z.suspend) where
    coroutine_resumes : AreWoken b g s t label z
    coroutine_resumes =
        resumed b g given s t label z h.wakes
        (coroutine_comes b g given s t r label z Intrinsic.CoroResume resume_label h (resume_wakes b g s)) unfinal

    pub coroutine_resume_followed : First → IsFollowed b g s t
    coroutine_resume_followed = woken_followed b g given s t label z coroutine_resumes

    pub coroutine_resume_entered : Never → IsFollowed b g s t
    coroutine_resume_entered = entered_followed b g given s t label z coroutine_resumes

  module _ (h : IsAtOwnWaking b g s t label z Intrinsic.CoroDestroy destroy_label) where
    coroutine_destroys : AreWoken b g s t label z
    coroutine_destroys =
        destroyed b g given s t label z h.wakes
        (coroutine_comes b g given s t r label z Intrinsic.CoroDestroy destroy_label h (destroy_wakes b g s))

    pub coroutine_destroy_followed : First → IsFollowed b g s t
    coroutine_destroy_followed = woken_followed b g given s t label z coroutine_destroys

    pub coroutine_destroy_entered : Never → IsFollowed b g s t
    coroutine_destroy_entered = entered_followed b g given s t label z coroutine_destroys
