-- The caller of a function: its operands are fetched, and then the framed run enters the same function.
use Rattle.std.proofs.Common.{◌≡◌, ℕ, suc, ◌+◌, ◌-◌, ◌<◌, Bool, true, false, List, ◌∷◌, length, refl, sym, ap, ◌∙◌, subst, arith}
use Rattle.std.specs.Prelude.{None, Option, Some, if◌then◌else◌}
use Rattle.pass_frames_steps.specs.ir_base.declared.outcome.Outcome.{Outcome}
use Rattle.pass_frames_steps.specs.ir_model.Names.{function_at}
use Rattle.pass_frames_steps.specs.ir_model.declared.instr.Instr.{Instr}
use Rattle.pass_frames_steps.specs.ir_model.declared.module.Function.{Function}
use Rattle.pass_frames_steps.specs.ir_model.declared.module.Module.{Module}
use Rattle.pass_frames_steps.specs.ir_model.declared.operand.Callee.{Callee}
use Rattle.pass_frames_steps.specs.ir_paths.declared.point.Point.{Point}
use Rattle.pass_frames_steps.specs.pass_cells.Cells.{fetches_of}
use Rattle.pass_frames_proof.proofs.calling.Passed.{passed_on}
use Rattle.pass_frames_steps.proofs.followed.Assembly.{shown_alike}
use Rattle.pass_frames_steps.proofs.lined.Lines.{framed_does, no_gift}
use Rattle.pass_frames_proof.proofs.returning.Behind.{CallStands, call_stands, switching_never}
use Rattle.pass_frames_proof.proofs.returning.Turned.{placed_at}
use Rattle.pass_frames_steps.proofs.stepping.Doing.{at_place, code_framed, fetched_is}
use Rattle.pass_frames_steps.proofs.stepping.Fetch as fetching
use Rattle.pass_frames_steps.proofs.stepping.Fetch.{named_alike}
use Rattle.pass_frames_steps.proofs.stepping.Fronted as fronted
use Rattle.pass_frames_steps.proofs.stepping.Other.{fetched_there, here_is, joined, same_names, shape}
use Rattle.pass_frames_steps.proofs.stepping.Stands.{cost_is, renewed_does}
use Rattle.pass_frames_steps.specs.Calling.{IsAtCall, IsAtPlainCall}
use Rattle.pass_frames_steps.specs.Code.{address_state, load_name, slot_table}
use Rattle.pass_frames_steps.specs.Followed.{IsOn}
use Rattle.pass_frames_steps.specs.Framings.{IsFraming}
use Rattle.pass_frames_steps.specs.Led.{IsLed}
use Rattle.pass_frames_steps.specs.Lined.{GivesNone, gives_frame, lined}
use Rattle.pass_frames_steps.specs.Meaning.{action_at, coroutine_cost, entered_cost, other_cost, step_cost}
use Rattle.pass_frames_steps.specs.Places.{Framing, Placed, framed, is_return, own_place, place, plan}
use Rattle.pass_frames_steps.specs.Related.{AreBuiltOf, Building, all_slots, behind_place, below_place, is_coroutine, point_of}
use Rattle.pass_frames_steps.specs.Returning.{IsSwitching}
use Rattle.pass_frames_steps.specs.Stepping.{AreGiven, IsFunctionCall, IsNotEntering, placed_front, placed_instr, state_in}
use Rattle.pass_frames_steps.specs.ir_model.declared.operand.Operand.{Operand}
use Rattle.pass_frames_steps.specs.pass_fetch.Fetching.{callee_by, fetch_of, fetched_args, next_by}
use Rattle.pass_frames_steps.specs.pass_fetch.Instrs.{with_fetched}
use Rattle.pass_frames_steps.specs.pass_fetch.declared.fetch.Fetch.{Fetch}
use Rattle.pass_frames_steps.specs.pass_renewed_proof.Renewed.{RenewedGiven, renewed_step}
use Rattle.pass_frames_steps.specs.run_agreement.Machines.{iterate}
use Rattle.pass_frames_steps.specs.run_framed.Framed.{frame_rights, framed_context, framed_step}
use Rattle.pass_frames_steps.proofs.run_laws.memory.Itself.{owner_rights_fit}
use Rattle.pass_frames_steps.proofs.run_laws.transfer.Over.{step_over}
use Rattle.pass_frames_steps.specs.run_laws.changed.Changed.{callee_at}
use Rattle.pass_frames_steps.specs.run_laws.embedded.Related.{AreValues, HasBytes, HasNoSlot}
use Rattle.pass_frames_steps.specs.run_laws.memory.Pointers.{Home, IsValue}
use Rattle.pass_frames_steps.specs.run_laws.transfer.Transfer.{AreJoined, AreOver, AreSameDistances, GoesOver, IsTransferred, args_at, given_at, same_maps}
use Rattle.pass_frames_steps.proofs.run_access_worked.run_laws_worked.Frames.{frame_rights_fit}
use Rattle.pass_frames_steps.specs.run_memory.Memory.{Rights, owner_rights}
use Rattle.pass_frames_steps.specs.run_memory.declared.pointer.Value.{Value}
use Rattle.pass_frames_steps.specs.run_source.Source.{called, context_of, enter, mode_of}
use Rattle.pass_frames_steps.specs.run_source.State.{function_of, work_of}
use Rattle.pass_frames_steps.specs.run_source.declared.state.State.{State}
use Rattle.pass_frames_steps.specs.run_step.Step.{Action, AtInstr, Context, Enter, Work, action_of, fetch, instr_action}
use Rattle.pass_frames_steps.specs.run_step.Values.{Env}
use Rattle.pass_frames_steps.specs.run_step.declared.world.World.{World}

-- so many steps of the framed run, and then one that enters the function; the caller is related as if nothing had been
-- done
pub record Enters (b : Building) (g : RenewedGiven) (s t : State) (func : ℕ) (args : List Value) (result : Option ℕ)
    : Type 0 where
  pub n : ℕ
  pub state : State
  pub related : AreBuiltOf b s state
  pub last : State
  pub leads : iterate (framed_step b.given) n t ≡ last
  pub line_shown : (i : ℕ) → i < n → IsOn b s (iterate (framed_step b.given) i t)
  pub last_shown : IsOn b s last
  pub others : List Value
  pub values : AreValues related.homes args others
  pub next : framed_step b.given last ≡ record state {
    top = called b.given.given.code func others result (mode_of (function_at b.given.given.code func));
    below = placed_at state.top (below_place b (passed_on s.top)) ∷ state.below;
  }
  pub source : renewed_step g s ≡ enter g.given s func args result
  pub cost : step_cost b g s s.top.mode ≡ n + 1 + entered_cost b func
  pub calm : is_coroutine b s.top.func ≡ true
      → IsNotEntering s.top.mode × (is_return (b.framing s.top.func) s.top.block ≡ false)
  pub slots : all_slots state ≡ all_slots t
  pub memory : state.world.memory ≡ t.world.memory

-- ---- what a call of a function is

record IsEasy (c d : Context) (env other : Env) (i j : Instr) : Type 0 where
  no_slot : HasNoSlot (AtInstr i)
  bytes : HasBytes (AtInstr i)
  distance : AreSameDistances c d env other (AtInstr i) (AtInstr j)
  switches : IsSwitching i

easy : (c d : Context) (env other : Env) (i j : Instr) → IsFunctionCall i → IsEasy c d env other i j
easy c d env other (Instr.Call r must_tail ty (Callee.Named n) args) j h =
    record { no_slot = tt; bytes = tt; distance = tt; switches = tt }
easy c d env other (Instr.Call r must_tail ty (Callee.Local v) args) j h =
    record { no_slot = tt; bytes = tt; distance = tt; switches = tt }
easy c d env other (Instr.Call r must_tail ty (Callee.Allocator n) args) j h = absurd h
easy c d env other (Instr.Call r must_tail ty (Callee.Intrinsic n) args) j h = absurd h
easy c d env other (Instr.Binary r op fs ty a b) j h = absurd h
easy c d env other (Instr.Icmp r pred ty a b) j h = absurd h
easy c d env other (Instr.Select r k a b) j h = absurd h
easy c d env other (Instr.Cast r op nneg a to) j h = absurd h
easy c d env other (Instr.Alloca r ty align) j h = absurd h
easy c d env other (Instr.Load r ty p align) j h = absurd h
easy c d env other (Instr.Store a p align) j h = absurd h
easy c d env other (Instr.Gep r inbounds ty p indices) j h = absurd h

-- behind fetches it gives no frame, too
call_gives : (m : Module) (t : List (Option Fetch)) (n : ℕ) (i : Instr) → IsFunctionCall i → GivesNone m i
    → GivesNone m (with_fetched t n i) × IsFunctionCall (with_fetched t n i)
call_gives m t n (Instr.Call r must_tail ty (Callee.Named name) args) h e = (e, tt)
call_gives m t n (Instr.Call r must_tail ty (Callee.Local v) args) h e = on (fetch_of t (Operand.Local v))
  where
    on : (o : Option Fetch)
        → GivesNone m (Instr.Call r must_tail ty (callee_by n o (Callee.Local v))
        (fetched_args t (next_by n o) args))
        × IsFunctionCall (Instr.Call r must_tail ty (callee_by n o (Callee.Local v))
        (fetched_args t (next_by n o) args))
    on None = (refl, tt)
    on (Some f) = (refl, tt)
call_gives m t n (Instr.Call r must_tail ty (Callee.Allocator a) args) h e = absurd h
call_gives m t n (Instr.Call r must_tail ty (Callee.Intrinsic a) args) h e = absurd h
call_gives m t n (Instr.Binary r op fs ty a b) h e = absurd h
call_gives m t n (Instr.Icmp r pred ty a b) h e = absurd h
call_gives m t n (Instr.Select r k a b) h e = absurd h
call_gives m t n (Instr.Cast r op nneg a to) h e = absurd h
call_gives m t n (Instr.Alloca r ty align) h e = absurd h
call_gives m t n (Instr.Load r ty p align) h e = absurd h
call_gives m t n (Instr.Store a p align) h e = absurd h
call_gives m t n (Instr.Gep r inbounds ty p indices) h e = absurd h

-- ---- of a coroutine

module _ (b : Building) (g : RenewedGiven) (given : AreGiven b g) (s t : State) (r : AreBuiltOf b s t) (i : Instr)
    (func : ℕ) (args : List Value) (result : Option ℕ) (must_tail : Bool)
    (h : IsAtCall b g s i func args result must_tail) where
  abbrev x : Framing
  x = b.framing s.top.func

  abbrev st : Placed
  st = state_in x s.top.block s.top.at

  abbrev c : Context
  c = context_of g.given s

  abbrev d : Context
  d = framed_context b.given t

  abbrev R : Rights
  R = frame_rights b.given t.instances

  abbrev k : ℕ
  k = s.top.block

  abbrev front : List Instr
  front = placed_front x st i

  abbrev call : Instr
  call = placed_instr x st i

  is : IsFraming x
  is = given.framings s.top.func h.at.coroutine

  running : t.outcome ≡ Outcome.Running
  running = r.outcome ∙ h.runs

  led : IsLed r.homes c d (work_of s) (work_of t) (load_name st) i call front
  led = fronted.led b g given s t r i h.at h.allocas

  abbrev work : Work
  work = fronted.work b g given s t r i h.at h.allocas

  simple : IsEasy c d s.top.values work.values i call
  simple = easy c d s.top.values work.values i call h.call

  gives_both : GivesNone b.framed_code call × IsFunctionCall call
  gives_both =
      let one = call_gives b.framed_code (fetches_of (plan x)) (load_name st) i h.call h.gives in
      call_gives b.framed_code (slot_table x) (address_state st).0 (with_fetched (fetches_of (plan x)) (load_name st) i)
      one.1 one.0

  code : CallStands x k s.top.at i
  code = call_stands x is k s.top.at i h.at.there h.at.unreturned simple.switches h.unlocated

  -- ---- what is called

  joined_there : AreJoined r.homes r.hides same_maps c d (work_of s) work
  joined_there = record {
    over = subst (λ (q : World). AreOver owner_rights R r.homes r.hides (λ n. n) s.world q)
        (sym (fronted.same_world b g given s t r i h.at h.allocas)) r.world;
    hidden = r.hidden;
    answers = given.answers;
    room = let a = fetching.enough b g given s t r i h.at in
        let e : length work.values ≡ length t.top.values = (fronted.leaves b g given s t r i h.at h.allocas).room in
        omega (arith, a, e);
  }

  transferred : IsTransferred (IsValue r.homes) same_maps c d s.top.values work.values (AtInstr i) (AtInstr call)
  unfolding led
  transferred = record {
    shape = led.shape;
    callee = named_alike c d (fetching.same_names b g given s t r i h.at).functions
        (fetching.same_names b g given s t r i h.at).declarations (callee_at (AtInstr i));
    pointed = h.pointed t;
    distance = simple.distance;
    cases = tt;
    no_slot = simple.no_slot;
    bytes = simple.bytes;
  }

  went : GoesOver owner_rights R r.homes r.hides same_maps (given_at (AtInstr i)) (args_at (AtInstr i))
      (args_at (AtInstr call)) (work_of s) work (Enter func args result must_tail) (instr_action d work call)
  went =
      subst
      (λ (act : Action). GoesOver owner_rights R r.homes r.hides same_maps (given_at (AtInstr i)) (args_at (AtInstr i))
      (args_at (AtInstr call)) (work_of s) work act (instr_action d work call)) h.does
      (step_over r.homes r.hides same_maps c d (work_of s) work (AtInstr i) (AtInstr call) owner_rights_fit
      (frame_rights_fit b.given t.instances) joined_there transferred)

  abbrev others : List Value
  others = went.0

  abbrev last : State
  last = lined t (length front) work

  abbrev state : State
  state = fronted.fetched_state b g given s t r i h.at h.allocas

  related_there : AreBuiltOf b s state
  related_there = fronted.fetched_related b g given s t r i h.at h.allocas

  same_homes : related_there.homes ≡ r.homes
  unfolding related_there
  same_homes = fronted.same_homes b g given s t r i h.at h.allocas

  abbrev here : Point
  here = record { block = k; at = s.top.at }

  -- ---- where the caller stands

  own_is : ◌≡◌ {A = Point} (record { block = t.top.block; at = t.top.at + length front }) (own_place x here)
  own_is =
      ap (λ (p : Point). record { block = p.block; at = p.at + length front }) (at_place b g given s t r i h.at)
      ∙ ap (λ (n : ℕ). record { block = k; at = n }) (sym code.own)

  behind_is : below_place b (passed_on s.top) ≡ record { block = k; at = (own_place x here).at + 1 }
  behind_is =
      ap (λ (q : Bool). if q then record { block = k; at = behind_place x k (s.top.at + 1) }
      else point_of (passed_on s.top)) h.at.coroutine
      ∙ ap (λ (n : ℕ). record { block = k; at = behind_place x k n }) (next s.top.at)
    where
      next : (n : ℕ) → n + 1 ≡ suc n
      next n = omega arith

  place_is : ◌≡◌ {A = Point} (record { block = t.top.block; at = t.top.at + length front + 1 })
      (below_place b (passed_on s.top))
  place_is = ap (λ (p : Point). record { block = p.block; at = p.at + 1 }) own_is ∙ sym behind_is

  at_call : fetch (function_of b.given.given t) t.top.block (t.top.at + length front) ≡ AtInstr call
  at_call =
      ap (λ (f : Function). fetch f t.top.block (t.top.at + length front)) (code_framed b g given s t r i h.at)
      ∙ ap (λ (p : Point). fetch (framed x) p.block p.at) own_is ∙ code.there

  next_is : framed_step b.given last ≡ record state {
    top = called b.given.given.code func others result (mode_of (function_at b.given.given.code func));
    below = placed_at state.top (below_place b (passed_on s.top)) ∷ state.below;
  }
  next_is =
      framed_does b.given last (AtInstr call) (Enter func others result must_tail) running at_call
      (no_gift b.given last call
      (subst (λ (m : Module). gives_frame m call ≡ false) (sym given.code) gives_both.0)) went.1
      ∙ ap (λ (p : Point). record state {
        top = called b.given.given.code func others result (mode_of (function_at b.given.given.code func));
        below = placed_at state.top p ∷ state.below;
      }) place_is

  cost_is_all : step_cost b g s s.top.mode ≡ length front + 1 + entered_cost b func
  cost_is_all =
      cost_is b g s s.top.mode h.at.mode
      ∙ ap (λ (q : Bool). if q then coroutine_cost b g s (action_at g s) else other_cost b g s (action_at g s))
      h.at.coroutine
      ∙ ap (coroutine_cost b g s)
      (ap (action_of c (work_of s)) (fetched_is b g given s t r i h.at) ∙ h.does)
      ∙ ap (λ (n : ℕ). n - (place x here).at + 1 + entered_cost b func) code.own
      ∙ far (place x here).at (length front) (entered_cost b func)
    where
      far : (a n e : ℕ) → (a + n) - a + 1 + e ≡ n + 1 + e
      far a n e = omega arith

  pub coroutine_enters : Enters b g s t func args result
  coroutine_enters = record {
    n = length front;
    state = state;
    related = related_there;
    last = last;
    leads = fronted.fetches_lead b g given s t r i h.at h.allocas running code.front;
    line_shown = fronted.fetches_shown b g given s t r i h.at h.allocas running code.front;
    last_shown = fronted.last_shown b g given s t r i h.at h.allocas running code.front;
    others = others;
    values = subst (λ (q : List Home). AreValues q args others) (sym same_homes) went.2;
    next = next_is;
    source = renewed_does g s (AtInstr i) (Enter func args result must_tail) h.runs
        (fetched_is b g given s t r i h.at)
        (switching_never (g.flags s.top.func) i simple.switches) h.does;
    cost = cost_is_all;
    calm = λ is. (h.at.mode, h.at.unreturned);
    slots = refl;
    memory = ap (λ (q : World). q.memory) (fronted.same_world b g given s t r i h.at h.allocas);
  }

-- ---- of a function that is no coroutine

module _ (b : Building) (g : RenewedGiven) (given : AreGiven b g) (s t : State) (r : AreBuiltOf b s t) (i : Instr)
    (func : ℕ) (args : List Value) (result : Option ℕ) (must_tail : Bool)
    (h : IsAtPlainCall b g s i func args result must_tail) where
  abbrev c2 : Context
  c2 = context_of g.given s

  abbrev d2 : Context
  d2 = framed_context b.given t

  easy2 : IsEasy c2 d2 s.top.values t.top.values i i
  easy2 = easy c2 d2 s.top.values t.top.values i i h.call

  transferred2 : IsTransferred (IsValue r.homes) same_maps c2 d2 s.top.values t.top.values (AtInstr i) (AtInstr i)
  transferred2 = record {
    shape = shape b g given s t r h.plain h.runs h.mode (AtInstr i);
    callee = named_alike c2 d2 (same_names b g given s t r h.plain h.runs h.mode).functions
        (same_names b g given s t r h.plain h.runs h.mode).declarations (callee_at (AtInstr i));
    pointed = h.pointed t;
    distance = easy2.distance;
    cases = tt;
    no_slot = easy2.no_slot;
    bytes = easy2.bytes;
  }

  went2 : GoesOver owner_rights (frame_rights b.given t.instances) r.homes r.hides same_maps (given_at (AtInstr i))
      (args_at (AtInstr i)) (args_at (AtInstr i)) (work_of s) (work_of t) (Enter func args result must_tail)
      (instr_action d2 (work_of t) i)
  went2 =
      subst
      (λ (act : Action). GoesOver owner_rights (frame_rights b.given t.instances) r.homes r.hides same_maps
      (given_at (AtInstr i)) (args_at (AtInstr i))
      (args_at (AtInstr i)) (work_of s) (work_of t) act (instr_action d2 (work_of t) i)) h.does
      (step_over r.homes r.hides same_maps c2 d2 (work_of s) (work_of t) (AtInstr i) (AtInstr i) owner_rights_fit
      (frame_rights_fit b.given t.instances) (joined b g given s t r h.plain h.runs h.mode) transferred2)

  place2 : ◌≡◌ {A = Point} (record { block = t.top.block; at = t.top.at + 1 }) (below_place b (passed_on s.top))
  place2 =
      ap (λ (p : Point). record { block = p.block; at = p.at + 1 }) (here_is b g given s t r h.plain h.runs h.mode)
      ∙ sym (ap (λ (q : Bool). if q then record {
        block = s.top.block;
        at = behind_place (b.framing s.top.func) s.top.block (s.top.at + 1);
      } else point_of (passed_on s.top)) h.plain)

  next2 : framed_step b.given t ≡ record t {
    top = called b.given.given.code func went2.0 result (mode_of (function_at b.given.given.code func));
    below = placed_at t.top (below_place b (passed_on s.top)) ∷ t.below;
  }
  next2 =
      framed_does b.given t (AtInstr i) (Enter func went2.0 result must_tail) (r.outcome ∙ h.runs)
      (fetched_there b g given s t r h.plain h.runs h.mode (AtInstr i) h.there)
      (no_gift b.given t i (subst (λ (k : Module). gives_frame k i ≡ false) (sym given.code) h.gives)) went2.1
      ∙ ap (λ (p : Point). record t {
        top = called b.given.given.code func went2.0 result (mode_of (function_at b.given.given.code func));
        below = placed_at t.top p ∷ t.below;
      }) place2

  pub other_enters : Enters b g s t func args result
  other_enters = record {
    n = 0;
    state = t;
    related = r;
    last = t;
    leads = refl;
    line_shown = λ j lt. absurd (none j lt);
    last_shown = record { running = r.outcome ∙ h.runs; shown = shown_alike b s t r };
    others = went2.0;
    values = went2.2;
    next = next2;
    source = renewed_does g s (AtInstr i) (Enter func args result must_tail) h.runs h.there
        (switching_never (g.flags s.top.func) i easy2.switches) h.does;
    cost =
        cost_is b g s s.top.mode h.mode
        ∙ ap (λ (k : Bool). if k then coroutine_cost b g s (action_at g s) else other_cost b g s (action_at g s))
        h.plain
        ∙ ap (other_cost b g s) (ap (action_of c2 (work_of s)) h.there ∙ h.does);
    calm = λ is. let no : true ≡ false = sym is ∙ h.plain in absurd (cc);
    slots = refl;
    memory = refl;
  }
    where
      none : (j : ℕ) → j < 0 → ⊥
      none j lt = omega arith
