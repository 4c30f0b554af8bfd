-- A call of an allocator: in a function that is no coroutine, and in a coroutine, whose operands are fetched.
use Rattle.std.proofs.Common.{◌≡◌, ◌+◌, ◌≤◌, ◌∷◌, ◌++◌, ◌∙◌, [], Bool, List, Option, ap, arith, false, length, refl, subst, sym, true, ℕ}
use Rattle.pass_frames_code.specs.ir_model.Ty.{Ty}
use Rattle.pass_frames_code.specs.ir_model.declared.instr.Instr.{Instr}
use Rattle.pass_frames_code.specs.ir_model.declared.operand.Allocator.{Allocator}
use Rattle.pass_frames_code.specs.ir_model.declared.operand.Arg.{Arg}
use Rattle.pass_frames_code.specs.ir_model.declared.operand.Callee.{Callee}
use Rattle.pass_frames_code.specs.pass_cells.Cells.{fetches_of}
use Rattle.pass_frames_code.specs.pass_cells.Written.{stored_result}
use Rattle.pass_frames_code.specs.pass_fetch.Fetching.{fetched_args}
use Rattle.pass_frames_steps.proofs.allocating.Both.{new_block}
use Rattle.pass_frames_steps.proofs.asking.Others.{gives_next, nth_stands}
use Rattle.pass_frames_steps.proofs.heaps.Fresh.{address_made, block_made}
use Rattle.pass_frames_steps.proofs.here.Giving.{given_followed, stand_right}
use Rattle.pass_frames_steps.proofs.here.Intrinsics.{call_args, pair_stands}
use Rattle.pass_frames_steps.proofs.here.Line.{never_idle}
use Rattle.pass_frames_steps.proofs.here.State.{cost_here, fetched_here, led_here, runs_here, stand_here}
use Rattle.pass_frames_code.proofs.led.Front.{IsShownLed}
use Rattle.pass_frames_code.proofs.lined.Lines.{framed_does}
use Rattle.pass_frames_code.proofs.stepping.Other.{cost_one, fetched_there, one_followed}
use Rattle.pass_frames_code.proofs.stepping.Stands.{renewed_does}
use Rattle.pass_frames_code.specs.Code.{address_state, load_name, slot_table}
use Rattle.pass_frames_code.specs.Followed.{IsFollowed}
use Rattle.pass_frames_code.specs.Heaps.{IsAllocator, IsAtMaking, IsAtOtherMaking, MayMake}
use Rattle.pass_frames_code.specs.Lined.{lined}
use Rattle.pass_frames_code.specs.Meaning.{step_cost}
use Rattle.pass_frames_code.specs.Places.{Framing, Placed, plan}
use Rattle.pass_frames_code.specs.Related.{AreBuiltOf, Building}
use Rattle.pass_frames_code.specs.Stepping.{AreGiven, placed_front, placed_instr, placed_line, state_in}
use Rattle.pass_frames_code.specs.pass_renewed_proof.Renewed.{RenewedGiven, renewed_step}
use Rattle.pass_frames_code.specs.run_framed.Framed.{framed_context, framed_step}
use Rattle.pass_frames_code.specs.ir_base.declared.outcome.Word.{Word}
use Rattle.pass_frames_code.specs.run_laws.memory.Pointers.{Home, IsValue}
use Rattle.pass_frames_code.specs.run_laws.transfer.Transfer.{StandsFor}
use Rattle.pass_frames_code.specs.run_memory.declared.block.Kind.{Kind}
use Rattle.pass_frames_code.specs.run_memory.declared.pointer.Value.{Value}
use Rattle.pass_frames_code.specs.run_source.Source.{context_of}
use Rattle.pass_frames_code.specs.run_source.State.{function_of, gives, settled, work_of}
use Rattle.pass_frames_code.specs.run_source.declared.state.State.{State}
use Rattle.pass_frames_code.specs.run_step.Step.{AtInstr, Context, Done, Fetched, Work, action_of, allocated, allocator_call, fetch, risen, with_length}
use Rattle.pass_frames_code.specs.run_step.Values.{arg_values, nth, pointer_to, with_result}
use Rattle.pass_frames_code.specs.run_step.declared.world.World.{World}

makes_it : (a : Allocator) → IsAllocator a → (w : Work) (result : Option ℕ) (vs : List Value) (n : Word)
    → nth vs 0 ≡ Value.Int n → allocator_call a w result vs ≡ Done (allocated w result n.bits)
makes_it Allocator.Malloc q w result vs n e = ap (λ (v : Value). with_length v (λ k. Done (allocated w result k))) e
makes_it Allocator.Znwm q w result vs n e = ap (λ (v : Value). with_length v (λ k. Done (allocated w result k))) e
makes_it Allocator.Free q w result vs n e = absurd q
makes_it Allocator.ZdlPv q w result vs n e = absurd q
makes_it Allocator.ZdlPvm q w result vs n e = absurd q

number_same : (homes : List Home) (v u : Value) (n : Word) → IsValue homes v u → v ≡ Value.Int n → u ≡ Value.Int n
number_same homes (Value.Int x) u n h e = h ∙ e
number_same homes (Value.Ptr p) u n h e = absurd (cc)
number_same homes Value.Poison u n h e = absurd (cc)

-- ---- in a function that is no coroutine

module _ (b : Building) (g : RenewedGiven) (given : AreGiven b g) (s t : State) (r : AreBuiltOf b s t)
    (may : MayMake b s t) (a : Allocator) (result : Option ℕ) (must_tail : Bool)
    (ty : Option Ty) (args : List Arg) (n : Word) (h : IsAtOtherMaking b g s a result must_tail ty args n) where
  abbrev here : Fetched
  here = AtInstr (Instr.Call result must_tail ty (Callee.Allocator a) args)

  abbrev vs : List Value
  vs = arg_values g.given.code s.top.values args

  abbrev us : List Value
  us = arg_values b.given.given.code t.top.values args

  abbrev s2 : State
  s2 = record s {
    world = record s.world {
      memory = s.world.memory ++ new_block false n.bits 16 Kind.Allocator ∷ [];
      allocs = risen s.world.allocs;
    };
  }

  abbrev t2 : State
  t2 = record t {
    world = record t.world {
      memory = t.world.memory ++ new_block false n.bits 16 Kind.Allocator ∷ [];
      allocs = risen t.world.allocs;
    };
  }

  r2 : AreBuiltOf b s2 t2
  r2 = block_made b s t r given.framings may.mine may.theirs may.inside n.bits h.small

  stands2 : IsValue r2.homes (pointer_to (length s.world.memory)) (pointer_to (length t.world.memory))
  unfolding r2
  stands2 = address_made b s t r given.framings may.mine may.theirs may.inside n.bits h.small

  size_there : nth us 0 ≡ Value.Int n
  size_there =
      number_same r.homes (nth vs 0) (nth us 0) n (nth_stands b g given s t r h.plain h.runs h.mode args 0) h.size

  source_is : renewed_step g s ≡ gives s2 result (pointer_to (length s.world.memory))
  source_is =
      renewed_does g s here (Done (allocated (work_of s) result n.bits)) h.runs h.there refl
      (makes_it a h.makes (work_of s) result vs n h.size)

  target_is : framed_step b.given t ≡ gives t2 result (pointer_to (length t.world.memory))
  target_is =
      framed_does b.given t here (Done (allocated (work_of t) result n.bits)) (r.outcome ∙ h.runs)
      (fetched_there b g given s t r h.plain h.runs h.mode here h.there) refl
      (makes_it a h.makes (work_of t) result us n size_there)

  pub other_made : IsFollowed b g s t
  other_made =
      one_followed b g s t
      (cost_one b g given s t r h.plain h.runs h.mode (Done (allocated (work_of s) result n.bits))
      (ap (action_of (context_of g.given s) (work_of s)) h.there
      ∙ makes_it a h.makes (work_of s) result vs n h.size) refl)
      (subst (λ (p : State × State). AreBuiltOf b p.0 p.1) (λ k. (sym source_is k, sym target_is k))
      (gives_next b g given s2 t2 r2 h.plain h.runs h.mode result (pointer_to (length s.world.memory))
      (pointer_to (length t.world.memory)) stands2))

-- ---- in a coroutine

module _ (b : Building) (g : RenewedGiven) (given : AreGiven b g) (s t : State) (r : AreBuiltOf b s t)
    (may : MayMake b s t) (a : Allocator) (result : Option ℕ) (must_tail : Bool)
    (ty : Option Ty) (args : List Arg) (n : Word) (h : IsAtMaking b g s a result must_tail ty args n) where
  abbrev call : Instr
  call = Instr.Call result must_tail ty (Callee.Allocator a) args

  abbrev x : Framing
  x = b.framing s.top.func

  abbrev st : Placed
  st = state_in x s.top.block s.top.at

  abbrev c : Context
  c = context_of g.given s

  abbrev d : Context
  d = framed_context b.given t

  abbrev front : List Instr
  front = placed_front x st call

  abbrev now : List Arg
  now = fetched_args (slot_table x) (address_state st).0 (fetched_args (fetches_of (plan x)) (load_name st) args)

  abbrev width : ℕ
  width = length front

  shown : IsShownLed r.homes c d (work_of s) (work_of t) (load_name st) call (placed_instr x st call) front
  shown = led_here b g given s t r call h.here

  abbrev S : Work
  S = shown.led.work

  abbrev vs2 : List Value
  vs2 = arg_values g.given.code s.top.values args

  abbrev us2 : List Value
  us2 = arg_values b.given.given.code S.values now

  argument : IsValue r.homes (nth vs2 0) (nth us2 0)
  argument =
      pair_stands r.homes c d s.top.values S.values args now
      (call_args (StandsFor true (IsValue r.homes) c d s.top.values S.values) call (placed_instr x st call)
      shown.shown result result must_tail must_tail ty ty (Callee.Allocator a) (Callee.Allocator a) args now refl refl)
      0

  there_size : nth us2 0 ≡ Value.Int n
  there_size = number_same r.homes (nth vs2 0) (nth us2 0) n argument h.size

  abbrev w : World
  w = record s.world {
    memory = s.world.memory ++ new_block false n.bits 16 Kind.Allocator ∷ [];
    allocs = risen s.world.allocs;
  }

  abbrev u : World
  u = record t.world {
    memory = t.world.memory ++ new_block false n.bits 16 Kind.Allocator ∷ [];
    allocs = risen t.world.allocs;
  }

  abbrev v : Value
  v = pointer_to (length s.world.memory)

  abbrev z : Value
  z = pointer_to (length t.world.memory)

  r3 : AreBuiltOf b (record s { world = w }) (record t { world = u })
  r3 = block_made b s t r given.framings may.mine may.theirs may.inside n.bits h.small

  stands3 : IsValue r3.homes v z
  unfolding r3
  stands3 = address_made b s t r given.framings may.mine may.theirs may.inside n.bits h.small

  there : fetch (function_of b.given.given t) t.top.block (t.top.at + width)
      ≡ AtInstr (Instr.Call result must_tail ty (Callee.Allocator a) now)
  there =
      (stand_right (function_of b.given.given t) t.top.block t.top.at front
      (placed_instr x st call ∷ stored_result (plan x) result) (stand_here b g given s t r call h.here)).0

  few : length (placed_line x st call) ≤ step_cost b g s s.top.mode
  few =
      subst (λ (m : ℕ). length (placed_line x st call) ≤ m)
      (sym (cost_here b g given s t r call h.here (Done (allocated (work_of s) result n.bits))
      (makes_it a h.makes (work_of s) result vs2 n h.size) refl)) (same (length (placed_line x st call)))
    where
      same : (m : ℕ) → m ≤ m
      same m = omega arith

  source_gives : renewed_step g s ≡ gives (record s { world = w }) result v
  source_gives =
      renewed_does g s (AtInstr call) (Done (allocated (work_of s) result n.bits)) h.here.runs
      (fetched_here b g given s t r call h.here) (never_idle (g.flags s.top.func) call h.here.lined)
      (makes_it a h.makes (work_of s) result vs2 n h.size)

  target_gives : framed_step b.given (lined t width S)
      ≡ settled (lined (record t { world = u }) width S) (record { world = u; values = with_result S.values result z })
  target_gives =
      framed_does b.given (lined t width S) (AtInstr (Instr.Call result must_tail ty (Callee.Allocator a) now))
      (Done (allocated (work_of (lined t width S)) result n.bits)) (runs_here b g given s t r call h.here) there refl
      (makes_it a h.makes (work_of (lined t width S)) result us2 n there_size)
      ∙ ap (λ (e : World). settled (lined (record t { world = e }) width S) (allocated (record {
        world = e;
        values = S.values;
      }) result n.bits)) shown.led.sets.world

  pub coroutine_made : IsFollowed b g s t
  coroutine_made =
      given_followed b g given s t r call h.here refl w s.instances u t.instances r3 v z stands3 S
      (record { runs = shown.led.runs; still = shown.led.still; sets = shown.led.sets }) h.storable source_gives
      target_gives few
