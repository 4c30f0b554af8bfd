-- A memcpy is followed, in a coroutine and in a function that is none.
use Rattle.std.proofs.Common.{◌≡◌, ◌+◌, ◌≤◌, ◌&&◌, ◌∷◌, ◌∙◌, [], Bool, List, None, Option, ap, arith, false, length, refl, subst, sym, true, ℕ}
use Rattle.pass_frames_code.specs.ir_model.Ty.{Ty}
use Rattle.pass_frames_code.specs.ir_model.declared.instr.Instr.{Instr}
use Rattle.pass_frames_code.specs.ir_model.declared.operand.Arg.{Arg}
use Rattle.pass_frames_code.specs.ir_model.declared.operand.Callee.{Callee}
use Rattle.pass_frames_code.specs.ir_model.declared.operand.Intrinsic.{Intrinsic}
use Rattle.pass_frames_code.specs.ir_paths.Windows.{operand_at}
use Rattle.pass_frames_code.specs.pass_cells.Cells.{fetches_of}
use Rattle.pass_frames_code.specs.pass_fetch.Fetching.{fetched_args}
use Rattle.pass_frames_steps.proofs.asking.Others.{gives_next}
use Rattle.pass_frames_steps.proofs.copying.Over.{CopiesToo, IsMemcpy, copies_too, memcpy_of}
use Rattle.pass_frames_steps.proofs.copying.Refilled.{refilled_related}
use Rattle.pass_frames_steps.proofs.here.Giving.{given_followed, stand_right}
use Rattle.pass_frames_steps.proofs.here.Intrinsics.{call_args}
use Rattle.pass_frames_steps.proofs.here.Line.{never_idle}
use Rattle.pass_frames_steps.proofs.here.State.{cost_here, enough, fetched_here, led_here, runs_here, stand_here}
use Rattle.pass_frames_code.proofs.led.Front.{IsShownLed}
use Rattle.pass_frames_code.proofs.lined.Lines.{framed_does}
use Rattle.pass_frames_code.proofs.stepping.May.{not_returned}
use Rattle.pass_frames_code.proofs.stepping.Other.{cost_one, fetched_there, joined, one_followed, operand_stands}
use Rattle.pass_frames_code.proofs.stepping.Stands.{renewed_does}
use Rattle.pass_frames_code.specs.Code.{address_state, load_name, slot_table}
use Rattle.pass_frames_code.specs.Copying.{IsAtCopying, IsAtOtherCopying}
use Rattle.pass_frames_code.specs.Followed.{IsFollowed}
use Rattle.pass_frames_code.specs.Lined.{lined}
use Rattle.pass_frames_code.specs.Meaning.{step_cost}
use Rattle.pass_frames_code.specs.Places.{Framing, Placed, plan}
use Rattle.pass_frames_code.specs.Related.{AreBuiltOf, Building}
use Rattle.pass_frames_code.specs.Stepping.{AreFieldsSpared, AreGiven, placed_front, placed_instr, placed_line, state_in}
use Rattle.pass_frames_code.specs.pass_renewed_proof.Renewed.{RenewedGiven, is_flagged, renewed_step}
use Rattle.pass_frames_code.specs.run_framed.Framed.{framed_context, framed_step}
use Rattle.pass_frames_code.proofs.run_laws.memory.Itself.{owner_rights_fit}
use Rattle.pass_frames_code.specs.run_laws.access.Changed.{KeepsFree}
use Rattle.pass_frames_code.specs.run_laws.memory.Pointers.{IsValue}
use Rattle.pass_frames_code.specs.run_laws.transfer.Muted.{muted}
use Rattle.pass_frames_code.specs.run_laws.transfer.Shapes.{ArgStays, Empty, Pair, Pairwise}
use Rattle.pass_frames_code.specs.run_laws.transfer.Transfer.{AreOver, StandsFor}
use Rattle.pass_frames_code.proofs.run_access_worked.run_laws_worked.Frames.{frame_rights_fit}
use Rattle.pass_frames_code.specs.run_memory.Memory.{owner_rights}
use Rattle.pass_frames_code.specs.run_memory.declared.pointer.Value.{Value}
use Rattle.pass_frames_code.specs.run_source.Source.{context_of}
use Rattle.pass_frames_code.specs.run_source.State.{function_of, gives, settled, work_of}
use Rattle.pass_frames_code.specs.run_source.declared.state.State.{State}
use Rattle.pass_frames_code.specs.run_step.Step.{AtInstr, Context, Done, Fetched, Work, action_of, fetch, set_memory}
use Rattle.pass_frames_code.specs.run_step.Values.{Env, arg_values}
use Rattle.pass_frames_code.specs.run_step.declared.world.World.{World}

-- ---- in a function that is no coroutine

module _ (b : Building) (g : RenewedGiven) (given : AreGiven b g) (s t : State) (r : AreBuiltOf b s t) (i : Intrinsic)
    (must_tail : Bool) (ty : Option Ty) (args : List Arg) (v : Work)
    (h : IsAtOtherCopying b g s i must_tail ty args v) (spared : AreFieldsSpared b s t r) where
  abbrev here : Fetched
  here = AtInstr (Instr.Call None must_tail ty (Callee.Intrinsic i) args)

  abbrev c : Context
  c = context_of g.given s

  abbrev d : Context
  d = framed_context b.given t

  m : IsMemcpy i
  m = memcpy_of i h.copying

  pairs : (args : List Arg)
      → Pairwise (ArgStays (StandsFor true (IsValue r.homes) c d s.top.values t.top.values)) args args
  pairs [] = Empty
  pairs (x ∷ args) =
      Pair x x args args (record {
        ty = refl;
        value = λ ty. operand_stands b g given s t r h.plain h.runs h.mode x.value ty;
      }) (pairs args)

  too : CopiesToo c d r.homes r.hides (work_of s) (work_of t) v (arg_values d.code t.top.values args)
  too =
      copies_too r.homes r.hides c d owner_rights_fit (frame_rights_fit b.given t.instances) (work_of s) (work_of t) v i
      m must_tail ty args args (joined b g given s t r h.plain h.runs h.mode) (pairs args)
      (sym (m.copies c (work_of s) None args (arg_values c.code s.top.values args)) ∙ h.does)

  abbrev u : World
  u = record t.world { memory = too.memory }

  r2 : AreBuiltOf b (record s { world = v.world }) (record t { world = u })
  r2 =
      refilled_related b s t r v.world u given.framings too.refilled too.keeps spared
      (λ is. let no : true ≡ false = sym is ∙ h.plain in absurd (cc)) too.over

  source_is : renewed_step g s ≡ gives (record s { world = v.world }) None Value.Poison
  source_is =
      renewed_does g s here (Done v) h.runs h.there
      (ap (λ (k : Bool). k && is_flagged (g.flags s.top.func) (operand_at args 1)) m.no_marker) h.does
      ∙ ap (λ (env : Env). record s {
        world = v.world;
        top = record s.top { at = s.top.at + 1; values = env };
      }) (ap (λ (z : Work). z.values) too.source.is)

  target_is : framed_step b.given t ≡ gives (record t { world = u }) None Value.Poison
  target_is =
      framed_does b.given t here (Done (set_memory (work_of t) too.memory)) (r.outcome ∙ h.runs)
      (fetched_there b g given s t r h.plain h.runs h.mode here h.there) refl
      (m.copies d (work_of t) None args (arg_values d.code t.top.values args) ∙ too.does)

  pub other_copied : IsFollowed b g s t
  other_copied =
      one_followed b g s t
      (cost_one b g given s t r h.plain h.runs h.mode (Done v) (ap (action_of c (work_of s)) h.there ∙ h.does) refl)
      (subst (λ (p : State × State). AreBuiltOf b p.0 p.1) (λ k. (sym source_is k, sym target_is k))
      (gives_next b g given (record s { world = v.world }) (record t { world = u }) r2 h.plain h.runs h.mode None
      Value.Poison Value.Poison tt))

-- ---- in a coroutine

module _ (b : Building) (g : RenewedGiven) (given : AreGiven b g) (s t : State) (r : AreBuiltOf b s t) (i : Intrinsic)
    (must_tail : Bool) (ty : Option Ty) (args : List Arg) (v : Work) (h : IsAtCopying b g s i must_tail ty args v)
    (spared : AreFieldsSpared b s t r) where
  abbrev call : Instr
  call = Instr.Call None must_tail ty (Callee.Intrinsic i) args

  abbrev x : Framing
  x = b.framing s.top.func

  abbrev st : Placed
  st = state_in x s.top.block s.top.at

  abbrev c2 : Context
  c2 = context_of g.given s

  abbrev d2 : Context
  d2 = framed_context b.given t

  abbrev front : List Instr
  front = placed_front x st call

  abbrev k : ℕ
  k = length front

  abbrev now : List Arg
  now = fetched_args (slot_table x) (address_state st).0 (fetched_args (fetches_of (plan x)) (load_name st) args)

  m2 : IsMemcpy i
  m2 = memcpy_of i h.copying

  shown : IsShownLed r.homes c2 d2 (work_of s) (work_of t) (load_name st) call (placed_instr x st call) front
  shown = led_here b g given s t r call h.here

  abbrev S : Work
  S = shown.led.work

  same_world : S.world ≡ t.world
  same_world = shown.led.sets.world

  too2 : CopiesToo c2 d2 r.homes r.hides (work_of s) S v (arg_values d2.code S.values now)
  too2 =
      copies_too r.homes r.hides c2 d2 owner_rights_fit (frame_rights_fit b.given t.instances) (work_of s) S v i m2
      must_tail ty args now (record {
        over = subst (λ (w : World). AreOver owner_rights d2.rights r.homes r.hides (λ d. d) s.world w) (sym same_world)
            r.world;
        hidden = r.hidden;
        answers = given.answers;
        room = enough b g given s t r call h.here (length S.values) shown.led.sets.room;
      })
      (call_args (StandsFor true (IsValue r.homes) c2 d2 s.top.values S.values) call (placed_instr x st call)
      shown.shown None None must_tail must_tail ty ty (Callee.Intrinsic i) (Callee.Intrinsic i) args now refl refl)
      (sym (m2.copies c2 (work_of s) None args (arg_values c2.code s.top.values args)) ∙ h.does)

  abbrev u2 : World
  u2 = record t.world { memory = too2.memory }

  same_after : record S.world { memory = too2.memory } ≡ u2
  same_after = ap (λ (w : World). record w { memory = too2.memory }) same_world

  r3 : AreBuiltOf b (record s { world = v.world }) (record t { world = u2 })
  r3 =
      refilled_related b s t r v.world u2 given.framings too2.refilled
      (subst (λ (w : World). KeepsFree owner_rights r.homes (muted r.hides s.world.memory) w.memory too2.memory)
      same_world too2.keeps) spared
      (λ is. not_returned x s.top s.top.mode h.here.on.mode h.here.on.unreturned)
      (subst (λ (w : World). AreOver owner_rights d2.rights r.homes r.hides (λ d. d) v.world w) same_after too2.over)

  source_goes : renewed_step g s ≡ gives (record s { world = v.world }) None Value.Poison
  source_goes =
      renewed_does g s (AtInstr call) (Done v) h.here.runs (fetched_here b g given s t r call h.here)
      (never_idle (g.flags s.top.func) call h.here.lined) h.does
      ∙ ap (λ (env : Env). record s {
        world = v.world;
        top = record s.top { at = s.top.at + 1; values = env };
      }) (ap (λ (z : Work). z.values) too2.source.is)

  there : fetch (function_of b.given.given t) t.top.block (t.top.at + k)
      ≡ AtInstr (Instr.Call None must_tail ty (Callee.Intrinsic i) now)
  there =
      (stand_right (function_of b.given.given t) t.top.block t.top.at front (placed_instr x st call ∷ [])
      (stand_here b g given s t r call h.here)).0

  target_goes : framed_step b.given (lined t k S)
      ≡ settled (lined (record t { world = u2 }) k S) (record { world = u2; values = S.values })
  target_goes =
      framed_does b.given (lined t k S) (AtInstr (Instr.Call None must_tail ty (Callee.Intrinsic i) now))
      (Done (set_memory S too2.memory)) (runs_here b g given s t r call h.here) there refl
      (m2.copies d2 S None now (arg_values d2.code S.values now) ∙ too2.does)
      ∙ ap (λ (w : World). settled (lined t k S) (record { world = w; values = S.values })) same_after

  few : length (placed_line x st call) ≤ step_cost b g s s.top.mode
  few =
      subst (λ (n : ℕ). length (placed_line x st call) ≤ n)
      (sym (cost_here b g given s t r call h.here (Done v) h.does refl)) (same (length (placed_line x st call)))
    where
      same : (n : ℕ) → n ≤ n
      same n = omega arith

  pub coroutine_copied : IsFollowed b g s t
  coroutine_copied =
      given_followed b g given s t r call h.here refl v.world s.instances u2 t.instances r3 Value.Poison Value.Poison tt S
      (record { runs = shown.led.runs; still = shown.led.still; sets = shown.led.sets })
      (λ q kv e kept. absurd (cc)) source_goes target_goes few
