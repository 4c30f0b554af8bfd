-- Resumes and destroys are followed.
use Rattle.std.proofs.Common.{◌≡◌, ◌⊎◌, inl, inr, ⊎_elim, ℕ, Bool, true, false, List, Option, Some, None, Result, Ok, Err, refl, sym, ap, ◌∙◌, subst, if◌then◌else◌}
use Rattle.std.specs.Prelude.{not, slice_get}
use Rattle.pass_frames_proof.specs.ir_base.declared.cause.Cause.{Cause}
use Rattle.pass_frames_proof.specs.ir_base.declared.outcome.Outcome.{Outcome}
use Rattle.pass_frames_proof.proofs.ir_laws.facts.Members.{at_each}
use Rattle.pass_frames_proof.proofs.ir_laws.paths.alike_functions.Lists.{each_where}
use Rattle.pass_frames_proof.specs.ir_model.Names.{function_at}
use Rattle.pass_frames_proof.specs.ir_model.Ty.{Ty}
use Rattle.pass_frames_proof.specs.ir_model.declared.instr.Instr.{Instr}
use Rattle.pass_frames_proof.specs.ir_model.declared.module.Function.{Function}
use Rattle.pass_frames_proof.specs.ir_model.declared.operand.Arg.{Arg}
use Rattle.pass_frames_proof.specs.ir_model.declared.operand.Callee.{Callee}
use Rattle.pass_frames_proof.specs.ir_model.declared.operand.Intrinsic.{Intrinsic}
use Rattle.pass_frames_proof.specs.ir_paths.Windows.{destroy_label, instr_at, instr_in, is_call_of, points_where, resume_label}
use Rattle.pass_frames_proof.specs.ir_paths.declared.point.Point.{Point}
use Rattle.pass_frames_proof.specs.ir_model.declared.module.Block.{Block}
use Rattle.pass_frames_proof.specs.pass_copies.Uses.{is_access}
use Rattle.pass_frames_meaning.proofs.coroutines.Steps.{may_stand}
use Rattle.pass_frames_meaning.proofs.ordinary.Standing.{fetch_ready}
use Rattle.pass_frames_meaning.proofs.others.Names.{result_low}
use Rattle.pass_frames_meaning.proofs.others.Others.{mode as plain_mode, no_ok}
use Rattle.pass_frames_meaning.proofs.others.Returns.{unreturned}
use Rattle.pass_frames_meaning.proofs.others.Unlocated.{unaccessed}
use Rattle.pass_frames_meaning.proofs.slotted.Facts.{instances_placed, slots_there}
use Rattle.pass_frames_meaning.proofs.woken.Edges.{IsLabelOf, destroy_of, resume_of}
use Rattle.pass_frames_meaning.proofs.woken.Sleeping.{anew_or_none, coroutine_there, is, order_there, same, sleeping, w}
use Rattle.pass_frames_meaning.specs.Coroutines.{MayFollow}
use Rattle.pass_frames_meaning.specs.Led.{IsEnteringAt}
use Rattle.pass_frames_meaning.specs.Setting.{AreOfRuns, KeepsAll, Setting}
use Rattle.pass_frames_meaning.specs.Standing.{IsStaying, MayStand}
use Rattle.pass_frames_meaning.specs.Woken.{KeepsWaking, MayWake, none_counts}
use Rattle.pass_frames_proof.proofs.waking.Callers.{coroutine_destroy_entered, coroutine_destroy_followed, coroutine_resume_entered, coroutine_resume_followed, other_destroy_entered, other_destroy_followed, other_resume_entered, other_resume_followed}
use Rattle.pass_frames_proof.specs.Followed.{IsFollowed}
use Rattle.pass_frames_proof.specs.Framings.{IsFraming}
use Rattle.pass_frames_proof.specs.Passes.{no_block}
use Rattle.pass_frames_proof.specs.Places.{Framing, edged, is_return}
use Rattle.pass_frames_proof.specs.Related.{AreBuiltOf, IsSuspendNumber, is_coroutine}
use Rattle.pass_frames_proof.specs.Stepping.{IsNotEntering, state_in}
use Rattle.pass_frames_proof.specs.Waking.{HasFirstAnew, HasNoneAnew, IsAtOwnWaking, IsAtWaking, IsSleeping, IsWaking, wake_call}
use Rattle.pass_frames_proof.specs.pass_kept_proof.Kept.{kept}
use Rattle.pass_frames_proof.specs.pass_renewed_proof.Renewed.{continue_renewed, is_idle, renewed_act, renewed_advance, renewed_next, renewed_step}
use Rattle.pass_frames_proof.specs.run_agreement.Machines.{IsFine}
use Rattle.pass_frames_proof.specs.run_source.Source.{Sleeper, context_of, sleeper_at}
use Rattle.pass_frames_proof.specs.run_source.State.{function_of, next, or_undefined, work_of}
use Rattle.pass_frames_proof.specs.run_source.declared.state.Mode.{Mode}
use Rattle.pass_frames_proof.specs.run_source.declared.state.State.{State}
use Rattle.pass_frames_proof.specs.run_source_tables.Given.{is_final}
use Rattle.pass_frames_proof.specs.run_step.Results.{and_then, ok_if}
use Rattle.pass_frames_proof.specs.run_step.Step.{AtInstr, Fetched, action_of, fetch}
use Rattle.pass_frames_proof.specs.run_step.Values.{arg_values, nth}
use Rattle.pass_frames_proof.specs.run_memory.declared.pointer.Value.{Value}

-- what stands in the row of points is an instruction of a block without returns
module _ (c : Setting) (all : KeepsAll c) (func : ℕ) (coroutine : is_coroutine c.b func ≡ true) where
  abbrev x : Framing
  x = c.b.framing func

  abbrev Away : Point → Type 0
  Away q = is_return x q.block ≡ false

  one_away : (q : Point) (i : Instr) → instr_at (edged x) q ≡ Some i → is_call_of Intrinsic.CoroSuspend i ≡ true
      → Away q
  one_away q i e call =
      let framing : IsFraming x = all.given.framings func coroutine in
      unreturned x framing.position framing.frameable.rules (all.returns func coroutine) q.block q.at i (on
      (slice_get (edged x).blocks q.block) e)
    where
      on : (o : Option Block) → instr_in o q.at ≡ Some i
          → slice_get (Rattle.std.specs.Prelude.unwrap_or o no_block).instrs q.at ≡ Some i
      on None d = absurd (cc)
      on (Some b) d = d

  pub suspend_away : (j : ℕ) (p : Point) → IsSuspendNumber x j p → is_return x p.block ≡ false
  suspend_away j p e =
      at_each Away (points_where (is_call_of Intrinsic.CoroSuspend) (edged x)) j p
      (each_where Away (is_call_of Intrinsic.CoroSuspend) (edged x) one_away) e

-- ---- the step

module _ (c : Setting) (all : KeepsAll c) (waking : KeepsWaking c) (s t : State) (r : AreBuiltOf c.b s t)
    (k : AreOfRuns c s t r) (runs : s.outcome ≡ Outcome.Running) (fine : IsFine (renewed_step c.g s).outcome)
    (may : MayWake c s)
    (follow : is_coroutine c.b s.top.func ≡ true → IsNotEntering s.top.mode → MayFollow c s) where
  abbrev Follows : Type 0
  Follows = IsFollowed c.b c.g s t

  pub record Acts (y : Fetched) : Type 0 where
    pub after : State
    pub acts : renewed_act c.g s (action_of (context_of c.g.given s) (work_of s) y) ≡ Ok after

  -- it is defined
  pub acts_now : (y : Fetched) → fetch (function_of c.g.given s) s.top.block s.top.at ≡ y
      → is_idle (c.g.flags s.top.func) y ≡ false → Acts y
  acts_now y e awake = on (renewed_act c.g s (action_of (context_of c.g.given s) (work_of s) y)) refl
    where
      step : renewed_step c.g s
          ≡ or_undefined c.g.given s (renewed_act c.g s (action_of (context_of c.g.given s) (work_of s) y))
      step = ap (renewed_advance c.g s) runs
          ∙ ap (λ (z : Fetched). or_undefined c.g.given s (renewed_next c.g s z)) e
          ∙ ap (λ (b : Bool). or_undefined c.g.given s (if b then Ok (next s)
          else renewed_act c.g s (action_of (context_of c.g.given s) (work_of s) y))) awake

      on : (q : Result State Cause)
          → renewed_act c.g s (action_of (context_of c.g.given s) (work_of s) y) ≡ q → Acts y
      on (Err cause) d = absurd (subst (λ (z : State). IsFine z.outcome) (step ∙ ap (or_undefined c.g.given s) d) fine)
      on (Ok after) d = record { after = after; acts = d }

  -- what stands where slots are made anew is an alloca
  pub no_call_entering : (result : Option ℕ) (must_tail : Bool) (ty : Option Ty) (callee : Callee) (args : List Arg)
      → fetch (function_of c.g.given s) s.top.block s.top.at ≡ AtInstr (Instr.Call result must_tail ty callee args)
      → IsNotEntering s.top.mode
  no_call_entering result must_tail ty callee args there = on s.top.mode may.led.entering
    where
      on : (mode : Mode) → IsEnteringAt (none_counts s.top.func)
          (fetch (function_of c.g.given s) s.top.block s.top.at) mode
          → IsNotEntering mode
      on (Mode.Entering from label) h =
          let both : AtInstr (Instr.Call result must_tail ty callee args)
          ≡ AtInstr (Instr.Alloca h.alloca h.ty h.align) = sym there ∙ h.stands in
          absurd (cc)
      on Mode.Plain h = tt
      on Mode.Ramp h = tt
      on Mode.Resumed h = tt
      on (Mode.GivenRamp frame) h = tt

  module _ (result : Option ℕ) (must_tail : Bool) (ty : Option Ty) (args : List Arg) where
    abbrev takes : Value
    takes = nth (arg_values c.g.given.code s.top.values args) 0

    module _ (intrinsic : Intrinsic) (leads : Function → Point → ℕ)
        (there : fetch (function_of c.g.given s) s.top.block s.top.at
        ≡ AtInstr (wake_call intrinsic result must_tail ty args)) (y : Sleeper) (finds : sleeper_at s takes ≡ Ok y)
        (label_of : (func : ℕ) (coroutine : is_coroutine c.b func ≡ true) (j : ℕ) (p : Point)
        → IsSuspendNumber (c.b.framing func) j p
        → IsLabelOf c func (is c all waking func coroutine) (w c all waking func coroutine)
        (all.returns func coroutine) (leads (edged (c.b.framing func)) p) j)
        (awake : is_idle (c.g.flags s.top.func) (AtInstr (wake_call intrinsic result must_tail ty args)) ≡ false)
        (staying : IsStaying (wake_call intrinsic result must_tail ty args))
        (unaccessing : is_access (wake_call intrinsic result must_tail ty args) ≡ false) where
      abbrev func : ℕ
      func = y.instance.coroutine

      abbrev f : Framing
      f = c.b.framing func

      abbrev coroutine : is_coroutine c.b func ≡ true
      coroutine = coroutine_there c all waking s t r k may takes y finds

      abbrev order : (j : ℕ) × IsSuspendNumber f j y.suspend
      order = order_there c all waking s t r k may takes y finds

      abbrev label : ℕ
      label = leads (edged f) y.suspend

      abbrev z : IsSleeping c.b c.g s label
      z = sleeping c all waking s t r k may takes y finds label
          (λ j n. label_of func coroutine j y.suspend n)

      abbrev waking_now : IsWaking c.b c.g s t label z intrinsic leads
      waking_now = record {
        result = result;
        must_tail = must_tail;
        ty = ty;
        args = args;
        runs = runs;
        placed = instances_placed s k.slots;
        finds = finds;
        leads_to = refl;
        unreturned = suspend_away c all func coroutine order.0 y.suspend order.1;
        slots = (slots_there t k.other_slots).each;
      }

      abbrev other_waking : is_coroutine c.b s.top.func ≡ false → IsAtWaking c.b c.g s t label z intrinsic leads
      other_waking plain = record {
        wakes = waking_now;
        plain = plain;
        mode = plain_mode c all s t r k runs fine plain;
        there = there;
      }

      mode_now : IsNotEntering s.top.mode
      mode_now = no_call_entering result must_tail ty (Callee.Intrinsic intrinsic) args there

      stand : (own : is_coroutine c.b s.top.func ≡ true) → MayStand c s (wake_call intrinsic result must_tail ty args)
      stand own =
          may_stand c all s t r k runs fine own mode_now (follow own mode_now)
          (wake_call intrinsic result must_tail ty args) there awake staying
          (unaccessed (c.b.framing s.top.func) (state_in (c.b.framing s.top.func) s.top.block s.top.at)
          (wake_call intrinsic result must_tail ty args) unaccessing)

      abbrev own_waking : is_coroutine c.b s.top.func ≡ true → IsAtOwnWaking c.b c.g s t label z intrinsic leads
      own_waking own = record {
        wakes = waking_now;
        at = fetch_ready c all s k.sound own mode_now (wake_call intrinsic result must_tail ty args) there staying
            (stand own);
        unlocated = (stand own).unlocated;
        allocas = λ at u align of e.
            result_low (c.b.framing s.top.func) (all.given.framings s.top.func own) 0 at u (Instr.Alloca u of align) e
            refl;
      }

      -- whether it makes slots anew or none
      anew : HasFirstAnew c.b c.g func (kept (c.g.keep func y.suspend) y.values)
          ⊎ HasNoneAnew c.b c.g func (kept (c.g.keep func y.suspend) y.values) label order.0
      anew = anew_or_none c all waking func coroutine order.0 y.suspend order.1 y.values label
          (label_of func coroutine order.0 y.suspend order.1)

    -- ---- resumes

    module _ (there : fetch (function_of c.g.given s) s.top.block s.top.at
        ≡ AtInstr (wake_call Intrinsic.CoroResume result must_tail ty args)) (y : Sleeper)
        (finds : sleeper_at s takes ≡ Ok y)
        (unfinal : is_final (function_at c.g.given.code y.instance.coroutine) y.suspend ≡ false) where
      abbrev resume_at : (func : ℕ) (coroutine : is_coroutine c.b func ≡ true) (j : ℕ) (p : Point)
          → IsSuspendNumber (c.b.framing func) j p
          → IsLabelOf c func (is c all waking func coroutine) (w c all waking func coroutine)
          (all.returns func coroutine) (resume_label (edged (c.b.framing func)) p) j
      resume_at func coroutine j p n =
          resume_of c func (is c all waking func coroutine) (w c all waking func coroutine)
          (all.returns func coroutine) j p n

      abbrev resumed_label : ℕ
      resumed_label = resume_label (edged (c.b.framing y.instance.coroutine)) y.suspend

      abbrev resumed_z : IsSleeping c.b c.g s resumed_label
      resumed_z = z Intrinsic.CoroResume resume_label there y finds resume_at refl tt refl

      unfinal_now : is_final (edged (c.b.framing y.instance.coroutine)) y.suspend ≡ false
      unfinal_now =
          ap (λ (g : Function). is_final g y.suspend)
          (sym (same c all waking y.instance.coroutine (coroutine_there c all waking s t r k may takes y finds)))
          ∙ unfinal

      resumed_by : Follows
      resumed_by = on (is_coroutine c.b s.top.func) refl
        where
          on : (b : Bool) → is_coroutine c.b s.top.func ≡ b → Follows
          on false e =
              let h = other_waking Intrinsic.CoroResume resume_label there y finds resume_at refl tt refl e in
              ⊎_elim (other_resume_followed c.b c.g all.given s t r resumed_label resumed_z h unfinal_now)
              (other_resume_entered c.b c.g all.given s t r resumed_label resumed_z h unfinal_now)
              (anew Intrinsic.CoroResume resume_label there y finds resume_at refl tt refl)
          on true e =
              let h = own_waking Intrinsic.CoroResume resume_label there y finds resume_at refl tt refl e in
              ⊎_elim (coroutine_resume_followed c.b c.g all.given s t r resumed_label resumed_z h unfinal_now)
              (coroutine_resume_entered c.b c.g all.given s t r resumed_label resumed_z h unfinal_now)
              (anew Intrinsic.CoroResume resume_label there y finds resume_at refl tt refl)

    pub resumes : fetch (function_of c.g.given s) s.top.block s.top.at
        ≡ AtInstr (wake_call Intrinsic.CoroResume result must_tail ty args) → Follows
    resumes there = on (sleeper_at s takes) refl (acts_now _ there refl)
      where
        by : (y : Sleeper) → sleeper_at s takes ≡ Ok y → (b : Bool)
            → is_final (function_at c.g.given.code y.instance.coroutine) y.suspend ≡ b → (after : State)
            → ok_if (not b) Cause.State (continue_renewed c.g s y.number y.instance y.suspend y.values
            (resume_label (function_at c.g.given.code y.instance.coroutine) y.suspend)) ≡ Ok after → Follows
        by y finds true e after h = absurd (no_ok Cause.State after h)
        by y finds false e after h = resumed_by there y finds e

        on : (q : Result Sleeper Cause) → sleeper_at s takes ≡ q
            → Acts (AtInstr (wake_call Intrinsic.CoroResume result must_tail ty args)) → Follows
        on (Err cause) e h =
            absurd (no_ok cause h.after (sym (ap (λ (q : Result Sleeper Cause). and_then q (λ (y : Sleeper).
            ok_if (not (is_final (function_at c.g.given.code y.instance.coroutine) y.suspend)) Cause.State
            (continue_renewed c.g s y.number y.instance y.suspend y.values
            (resume_label (function_at c.g.given.code y.instance.coroutine) y.suspend)))) e) ∙ h.acts))
        on (Ok y) e h =
            by y e (is_final (function_at c.g.given.code y.instance.coroutine) y.suspend) refl h.after
            (sym (ap (λ (q : Result Sleeper Cause). and_then q (λ (y : Sleeper).
            ok_if (not (is_final (function_at c.g.given.code y.instance.coroutine) y.suspend)) Cause.State
            (continue_renewed c.g s y.number y.instance y.suspend y.values
            (resume_label (function_at c.g.given.code y.instance.coroutine) y.suspend)))) e) ∙ h.acts)

    -- ---- destroys

    module _ (there : fetch (function_of c.g.given s) s.top.block s.top.at
        ≡ AtInstr (wake_call Intrinsic.CoroDestroy result must_tail ty args)) (y : Sleeper)
        (finds : sleeper_at s takes ≡ Ok y) where
      abbrev destroy_at : (func : ℕ) (coroutine : is_coroutine c.b func ≡ true) (j : ℕ) (p : Point)
          → IsSuspendNumber (c.b.framing func) j p
          → IsLabelOf c func (is c all waking func coroutine) (w c all waking func coroutine)
          (all.returns func coroutine) (destroy_label (edged (c.b.framing func)) p) j
      destroy_at func coroutine j p n =
          destroy_of c func (is c all waking func coroutine) (w c all waking func coroutine)
          (all.returns func coroutine) j p n

      abbrev destroyed_label : ℕ
      destroyed_label = destroy_label (edged (c.b.framing y.instance.coroutine)) y.suspend

      abbrev destroyed_z : IsSleeping c.b c.g s destroyed_label
      destroyed_z = z Intrinsic.CoroDestroy destroy_label there y finds destroy_at refl tt refl

      destroyed_by : Follows
      destroyed_by = on (is_coroutine c.b s.top.func) refl
        where
          on : (b : Bool) → is_coroutine c.b s.top.func ≡ b → Follows
          on false e =
              let h = other_waking Intrinsic.CoroDestroy destroy_label there y finds destroy_at refl tt refl e in
              ⊎_elim (other_destroy_followed c.b c.g all.given s t r destroyed_label destroyed_z h)
              (other_destroy_entered c.b c.g all.given s t r destroyed_label destroyed_z h)
              (anew Intrinsic.CoroDestroy destroy_label there y finds destroy_at refl tt refl)
          on true e =
              let h = own_waking Intrinsic.CoroDestroy destroy_label there y finds destroy_at refl tt refl e in
              ⊎_elim (coroutine_destroy_followed c.b c.g all.given s t r destroyed_label destroyed_z h)
              (coroutine_destroy_entered c.b c.g all.given s t r destroyed_label destroyed_z h)
              (anew Intrinsic.CoroDestroy destroy_label there y finds destroy_at refl tt refl)

    pub destroys : fetch (function_of c.g.given s) s.top.block s.top.at
        ≡ AtInstr (wake_call Intrinsic.CoroDestroy result must_tail ty args) → Follows
    destroys there = on (sleeper_at s takes) refl (acts_now _ there refl)
      where
        on : (q : Result Sleeper Cause) → sleeper_at s takes ≡ q
            → Acts (AtInstr (wake_call Intrinsic.CoroDestroy result must_tail ty args)) → Follows
        on (Err cause) e h =
            absurd (no_ok cause h.after (sym (ap (λ (q : Result Sleeper Cause). and_then q (λ (y : Sleeper).
            Ok (continue_renewed c.g s y.number y.instance y.suspend y.values
            (destroy_label (function_at c.g.given.code y.instance.coroutine) y.suspend)))) e) ∙ h.acts))
        on (Ok y) e h = destroyed_by there y e

  pub wakes_followed : (x : Intrinsic) → (x ≡ Intrinsic.CoroResume) ⊎ (x ≡ Intrinsic.CoroDestroy)
      → (result : Option ℕ) (must_tail : Bool) (ty : Option Ty) (args : List Arg)
      → fetch (function_of c.g.given s) s.top.block s.top.at
      ≡ AtInstr (Instr.Call result must_tail ty (Callee.Intrinsic x) args) → Follows
  wakes_followed x (inl e) result must_tail ty args there =
      resumes result must_tail ty args
      (there ∙ ap (λ (y : Intrinsic). AtInstr (wake_call y result must_tail ty args)) e)
  wakes_followed x (inr e) result must_tail ty args there =
      destroys result must_tail ty args
      (there ∙ ap (λ (y : Intrinsic). AtInstr (wake_call y result must_tail ty args)) e)
