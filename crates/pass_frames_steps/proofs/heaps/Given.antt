-- A step that gives a block back: in a function that is no coroutine, and in a coroutine, whose operands are fetched.
use Rattle.std.proofs.Common.{◌≡◌, ◌+◌, ◌≤◌, ◌∷◌, ◌∙◌, List, None, Option, Bool, ap, arith, length, refl, subst, sym, true, ℕ}
use Rattle.pass_frames_code.specs.ir_model.Ty.{Ty}
use Rattle.pass_frames_code.specs.ir_model.declared.instr.Instr.{Instr}
use Rattle.pass_frames_code.specs.ir_model.declared.operand.Allocator.{Allocator}
use Rattle.pass_frames_code.specs.ir_model.declared.operand.Arg.{Arg}
use Rattle.pass_frames_code.specs.ir_model.declared.operand.Callee.{Callee}
use Rattle.pass_frames_code.specs.pass_cells.Cells.{fetches_of}
use Rattle.pass_frames_code.specs.pass_cells.Written.{stored_result}
use Rattle.pass_frames_code.specs.pass_fetch.Fetching.{fetched_args}
use Rattle.pass_frames_steps.proofs.asking.Others.{gives_next, nth_stands}
use Rattle.pass_frames_steps.proofs.heaps.Steps.{value_back}
use Rattle.pass_frames_steps.proofs.here.Giving.{given_followed, stand_right}
use Rattle.pass_frames_steps.proofs.here.Intrinsics.{call_args, pair_stands}
use Rattle.pass_frames_steps.proofs.here.Line.{never_idle}
use Rattle.pass_frames_steps.proofs.here.State.{cost_here, fetched_here, led_here, runs_here, stand_here}
use Rattle.pass_frames_code.proofs.led.Front.{IsShownLed}
use Rattle.pass_frames_code.proofs.lined.Lines.{framed_does}
use Rattle.pass_frames_code.proofs.stepping.Other.{cost_one, fetched_there, one_followed}
use Rattle.pass_frames_code.proofs.stepping.Stands.{renewed_does}
use Rattle.pass_frames_code.specs.Code.{address_state, load_name, slot_table}
use Rattle.pass_frames_code.specs.Followed.{IsFollowed}
use Rattle.pass_frames_code.specs.Heaps.{IsAtFree, IsAtOtherFree, IsDeallocator, IsGivenBack}
use Rattle.pass_frames_code.specs.Lined.{lined}
use Rattle.pass_frames_code.specs.Meaning.{step_cost}
use Rattle.pass_frames_code.specs.Places.{Framing, Placed, plan}
use Rattle.pass_frames_code.specs.Related.{AreBuiltOf, Building}
use Rattle.pass_frames_code.specs.Stepping.{AreGiven, placed_front, placed_instr, placed_line, state_in}
use Rattle.pass_frames_code.specs.pass_renewed_proof.Renewed.{RenewedGiven, renewed_step}
use Rattle.pass_frames_code.specs.run_framed.Framed.{framed_context, framed_step}
use Rattle.pass_frames_code.specs.run_laws.memory.Pointers.{Home, IsValue}
use Rattle.pass_frames_code.specs.run_laws.transfer.Transfer.{StandsFor}
use Rattle.pass_frames_code.specs.run_memory.declared.pointer.Value.{Value}
use Rattle.pass_frames_code.specs.run_source.Source.{context_of, deallocate}
use Rattle.pass_frames_code.specs.run_source.State.{function_of, gives, or_undefined, settled, work_of}
use Rattle.pass_frames_code.specs.run_source.declared.state.Activation.{Activation}
use Rattle.pass_frames_code.specs.run_source.declared.state.State.{State}
use Rattle.pass_frames_code.specs.run_step.Step.{AtInstr, Context, Deallocate, Fetched, Work, action_of, allocator_call, fetch}
use Rattle.pass_frames_code.specs.run_step.Values.{address, arg_values, nth, with_result}
use Rattle.pass_frames_code.specs.run_step.declared.world.World.{World}

pub address_same : (homes : List Home) (v u : Value) → IsValue homes v u → IsValue homes (address v) (address u)
address_same homes (Value.Ptr p) u h = (h.0, ap address h.1)
address_same homes (Value.Int w) u h = tt
address_same homes Value.Poison u h = tt

frees_it : (a : Allocator) → IsDeallocator a → (w : Work) (vs : List Value)
    → allocator_call a w None vs ≡ Deallocate (address (nth vs 0))
frees_it Allocator.Free q w vs = refl
frees_it Allocator.ZdlPv q w vs = refl
frees_it Allocator.ZdlPvm q w vs = refl
frees_it Allocator.Malloc q w vs = absurd q
frees_it Allocator.Znwm q w vs = absurd q

-- ---- in a function that is no coroutine

module _ (b : Building) (g : RenewedGiven) (given : AreGiven b g) (s t : State) (r : AreBuiltOf b s t) (a : Allocator)
    (must_tail : Bool) (ty : Option Ty) (args : List Arg) (after : State)
    (h : IsAtOtherFree b g s t r a must_tail ty args after) where
  abbrev here : Fetched
  here = AtInstr (Instr.Call None must_tail ty (Callee.Allocator a) args)

  abbrev vs : List Value
  vs = arg_values g.given.code s.top.values args

  abbrev us : List Value
  us = arg_values b.given.given.code t.top.values args

  back : IsGivenBack b s t after (address (nth us 0))
  back =
      value_back b s t r given.framings (address (nth vs 0)) (address (nth us 0))
      (address_same r.homes (nth vs 0) (nth us 0) (nth_stands b g given s t r h.plain h.runs h.mode args 0)) h.giving
      after h.does

  abbrev s2 : State
  s2 = record s { world = back.source; instances = back.instances }

  abbrev t2 : State
  t2 = record t { world = back.target; instances = back.others }

  source_is : renewed_step g s ≡ gives s2 None Value.Poison
  source_is =
      renewed_does g s here (Deallocate (address (nth vs 0))) h.runs h.there refl (frees_it a h.frees (work_of s) vs)
      ∙ ap (or_undefined g.given s) h.does
      ∙ back.gives

  target_is : framed_step b.given t ≡ gives t2 None Value.Poison
  target_is =
      framed_does b.given t here (Deallocate (address (nth us 0))) (r.outcome ∙ h.runs)
      (fetched_there b g given s t r h.plain h.runs h.mode here h.there) refl (frees_it a h.frees (work_of t) us)
      ∙ ap (or_undefined b.given.given t) (back.leads t.top)

  pub other_given_back : IsFollowed b g s t
  other_given_back =
      one_followed b g s t
      (cost_one b g given s t r h.plain h.runs h.mode (Deallocate (address (nth vs 0)))
      (ap (action_of (context_of g.given s) (work_of s)) h.there ∙ frees_it a h.frees (work_of s) vs) refl)
      (subst (λ (p : State × State). AreBuiltOf b p.0 p.1) (λ k. (sym source_is k, sym target_is k))
      (gives_next b g given s2 t2 back.related h.plain h.runs h.mode None Value.Poison Value.Poison tt))

-- ---- in a coroutine

module _ (b : Building) (g : RenewedGiven) (given : AreGiven b g) (s t : State) (r : AreBuiltOf b s t) (a : Allocator)
    (must_tail : Bool) (ty : Option Ty) (args : List Arg) (after : State)
    (h : IsAtFree b g s t r a must_tail ty args after) where
  abbrev call : Instr
  call = Instr.Call None must_tail ty (Callee.Allocator a) args

  abbrev x : Framing
  x = b.framing s.top.func

  abbrev st : Placed
  st = state_in x s.top.block s.top.at

  abbrev c : Context
  c = context_of g.given s

  abbrev d : Context
  d = framed_context b.given t

  abbrev front : List Instr
  front = placed_front x st call

  abbrev now : List Arg
  now = fetched_args (slot_table x) (address_state st).0 (fetched_args (fetches_of (plan x)) (load_name st) args)

  abbrev width : ℕ
  width = length front

  shown : IsShownLed r.homes c d (work_of s) (work_of t) (load_name st) call (placed_instr x st call) front
  shown = led_here b g given s t r call h.here

  abbrev S : Work
  S = shown.led.work

  abbrev vs2 : List Value
  vs2 = arg_values g.given.code s.top.values args

  abbrev us2 : List Value
  us2 = arg_values b.given.given.code S.values now

  argument : IsValue r.homes (nth vs2 0) (nth us2 0)
  argument =
      pair_stands r.homes c d s.top.values S.values args now
      (call_args (StandsFor true (IsValue r.homes) c d s.top.values S.values) call (placed_instr x st call)
      shown.shown None None must_tail must_tail ty ty (Callee.Allocator a) (Callee.Allocator a) args now refl refl) 0

  back2 : IsGivenBack b s t after (address (nth us2 0))
  back2 =
      value_back b s t r given.framings (address (nth vs2 0)) (address (nth us2 0))
      (address_same r.homes (nth vs2 0) (nth us2 0) argument) h.giving after h.does

  abbrev s3 : State
  s3 = record s { world = back2.source; instances = back2.instances }

  abbrev t3 : State
  t3 = record t { world = back2.target; instances = back2.others }

  there : fetch (function_of b.given.given t) t.top.block (t.top.at + width)
      ≡ AtInstr (Instr.Call None must_tail ty (Callee.Allocator a) now)
  there =
      (stand_right (function_of b.given.given t) t.top.block t.top.at front
      (placed_instr x st call ∷ stored_result (plan x) None) (stand_here b g given s t r call h.here)).0

  few : length (placed_line x st call) ≤ step_cost b g s s.top.mode
  few =
      subst (λ (n : ℕ). length (placed_line x st call) ≤ n)
      (sym (cost_here b g given s t r call h.here (Deallocate (address (nth vs2 0)))
      (frees_it a h.frees (work_of s) vs2) refl)) (same (length (placed_line x st call)))
    where
      same : (n : ℕ) → n ≤ n
      same n = omega arith

  source_gives : renewed_step g s ≡ gives s3 None Value.Poison
  source_gives =
      renewed_does g s (AtInstr call) (Deallocate (address (nth vs2 0))) h.here.runs
      (fetched_here b g given s t r call h.here) (never_idle (g.flags s.top.func) call h.here.lined)
      (frees_it a h.frees (work_of s) vs2)
      ∙ ap (or_undefined g.given s) h.does
      ∙ back2.gives

  -- the framed run in the midst of the line
  abbrev within : Activation
  within = record t.top { at = t.top.at + width; values = S.values }

  target_gives : framed_step b.given (lined t width S)
      ≡ settled (lined t3 width S) (record {
        world = back2.target;
        values = with_result S.values None Value.Poison;
      })
  target_gives =
      framed_does b.given (lined t width S) (AtInstr (Instr.Call None must_tail ty (Callee.Allocator a) now))
      (Deallocate (address (nth us2 0))) (runs_here b g given s t r call h.here) there refl
      (frees_it a h.frees (work_of (lined t width S)) us2)
      ∙ ap (λ (w : World). or_undefined b.given.given (record t { world = w; top = within })
      (deallocate (record t { world = w; top = within }) (address (nth us2 0)))) shown.led.sets.world
      ∙ ap (or_undefined b.given.given (record t { top = within })) (back2.leads within)

  pub coroutine_given_back : IsFollowed b g s t
  coroutine_given_back =
      given_followed b g given s t r call h.here refl back2.source back2.instances back2.target back2.others
      back2.related Value.Poison Value.Poison tt S
      (record { runs = shown.led.runs; still = shown.led.still; sets = shown.led.sets })
      (λ q k e kept. absurd (cc)) source_gives target_gives few
