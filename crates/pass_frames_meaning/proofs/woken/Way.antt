-- In each state of a run that makes slots anew, an activation that does so is on its way to a label behind a suspend.
use Rattle.std.proofs.Common.{◌≡◌, ◌⊎◌, inl, inr, ⊎_elim, ℕ, zero, suc, ◌+◌, ◌<◌, Bool, true, false, List, drop, length, Option, Some, None, Ok, refl, sym, ap, ◌∙◌, subst, arith, [], ◌∷◌}
use Rattle.std.proofs.lemmas.Bool.{cases_eq, cases_lt, false≢true}
use Rattle.std.specs.Prelude.{option_map, slice_get}
use Rattle.pass_frames_proof.specs.ir_base.declared.outcome.Outcome.{Outcome}
use Rattle.pass_frames_proof.specs.ir_base.declared.outcome.Word.{Word}
use Rattle.pass_frames_proof.proofs.ir_laws.facts.Lists.{nothing_found, set_here, set_other}
use Rattle.pass_frames_proof.specs.ir_model.Names.{function_at}
use Rattle.pass_frames_proof.specs.ir_model.Ty.{Ty}
use Rattle.pass_frames_proof.specs.ir_model.declared.instr.Instr.{Instr}
use Rattle.pass_frames_proof.specs.ir_model.declared.module.Block.{Block}
use Rattle.pass_frames_proof.specs.ir_model.declared.module.Function.{Function}
use Rattle.pass_frames_proof.specs.ir_model.declared.operand.Intrinsic.{Intrinsic}
use Rattle.pass_frames_proof.specs.ir_paths.Windows.{destroy_label, instr_at, is_call_of, resume_label}
use Rattle.pass_frames_proof.specs.ir_paths.declared.point.Point.{Point}
use Rattle.pass_frames_meaning.proofs.coroutines.Calls.{calm_by}
use Rattle.pass_frames_meaning.proofs.others.Names.{result_low}
use Rattle.pass_frames_meaning.proofs.others.Returns.{instr_in}
use Rattle.pass_frames_meaning.proofs.woken.Flagged.{IsNextAt, IsNextPoint, fetched_entry, next_at}
use Rattle.pass_frames_meaning.proofs.woken.Handed.{kept_out}
use Rattle.pass_frames_meaning.proofs.woken.ModeHooks.{renewed_modes}
use Rattle.pass_frames_meaning.proofs.woken.Modes.{step_stays}
use Rattle.pass_frames_meaning.proofs.woken.Numbered.{numbered}
use Rattle.pass_frames_meaning.proofs.led.Names.{calm_still}
use Rattle.pass_frames_meaning.specs.Called.{AreBehindCalls, IsCalledState}
use Rattle.pass_frames_proof.specs.run_source.declared.state.Activation.{Activation}
use Rattle.pass_frames_proof.specs.ir_model.declared.module.Module.{Module}
use Rattle.pass_frames_meaning.specs.Setting.{KeepsAll, Setting}
use Rattle.pass_frames_meaning.specs.Woken.{AreStill, IsOnWay, KeepsWaking}
use Rattle.pass_frames_proof.proofs.ramps.Plain.{entry_there}
use Rattle.pass_frames_proof.specs.Framings.{IsFraming}
use Rattle.pass_frames_proof.specs.Places.{Framing, edged, instrs_at}
use Rattle.pass_frames_proof.specs.Related.{IsSuspendNumber, is_coroutine}
use Rattle.pass_frames_proof.specs.Stepping.{IsNotEntering}
use Rattle.pass_frames_proof.specs.pass_kept_proof.Kept.{kept}
use Rattle.pass_frames_proof.proofs.pass_renewed_proof.Entering.{entering_step}
use Rattle.pass_frames_proof.specs.pass_renewed_proof.Entering.{made_anew}
use Rattle.pass_frames_proof.specs.pass_renewed_proof.Renewed.{continue_renewed, is_renewed, renew_after, renewed_advance, renewed_from, renewed_in, renewed_step}
use Rattle.pass_renewed_meaning.proofs.run_hooks.Steps.{renewed_steps}
use Rattle.pass_renewed_meaning.specs.run_hooks.Meanings.{renewed_hooks}
use Rattle.pass_frames_proof.specs.run_memory.declared.pointer.Value.{Value}
use Rattle.pass_frames_proof.specs.run_source.Source.{Sleeper, first_state, push, resumed, sleeper_at}
use Rattle.pass_frames_proof.specs.run_source.State.{function_of, with_status}
use Rattle.pass_frames_proof.specs.run_source.declared.state.Mode.{Mode}
use Rattle.pass_frames_proof.specs.run_source.declared.state.State.{State}
use Rattle.pass_frames_proof.specs.run_source.declared.state.Status.{Status}
use Rattle.pass_frames_proof.proofs.run_states.sound_states.Acts.{IsAsleepAt, asleep_there}
use Rattle.pass_frames_proof.specs.run_states.sound_states.Sound.{IsSound, IsSoundStatus, IsSuspendAt}
use Rattle.pass_frames_proof.specs.run_step.Runs.{iterate}
use Rattle.pass_frames_proof.specs.run_step.Step.{AtInstr, fetch}
use Rattle.pass_frames_proof.specs.run_step.Values.{Env, pointer_to, value_in, value_or_poison, with_value}

same_label : (f g l m : ℕ) → Mode.Entering f l ≡ Mode.Entering g m → l ≡ m
same_label f g l m e = cc

-- ---- a name that is set

set_now : (env : Env) (name : ℕ) (x : Value) → name < length env → value_in (with_value env name x) name ≡ x
set_now env name x lt = ap value_or_poison (set_here env name (Some x) lt)

set_apart : (env : Env) (name v : ℕ) (x : Value) → (name ≡ v → ⊥) → value_in (with_value env name x) v ≡ value_in env v
set_apart env name v x ne = ap value_or_poison (set_other env name v (Some x) ne)

-- ---- where nothing is flagged

unflagged : (flags : ℕ → Bool) → ((a : ℕ) → flags a ≡ false) → (i : Instr) → is_renewed flags i ≡ false
unflagged flags off (Instr.Alloca name ty align) = off name
unflagged flags off _ = refl

none_from : (flags : ℕ → Bool) → ((a : ℕ) → flags a ≡ false) → (f : Function) (at : ℕ)
    → renewed_from flags f at ≡ None
none_from flags off f at = on (slice_get f.blocks 0)
  where
    on : (o : Option Block) → option_map {U = Point} (λ k. record { block = 0; at = k }) (renewed_in flags o at) ≡ None
    on None = refl
    on (Some b) = ap (λ (o : Option ℕ). option_map {U = Point} (λ k. record { block = 0; at = k })
        (option_map (λ k. at + k) o))
        (nothing_found (is_renewed flags) (drop at b.instrs) (λ k i e. unflagged flags off i))

-- activations below stand behind calls
all_still : (m : Module) (result : Option ℕ) (below : List Activation) → AreBehindCalls m result below → AreStill below
all_still m result [] h = tt
all_still m result (a ∷ below) h = (calm_still a.mode h.0.calm, all_still m a.result below h.1)

module _ (c : Setting) (all : KeepsAll c) (waking : KeepsWaking c) where
  abbrev pub IsOnAnyWay : State → Type 0
  IsOnAnyWay t =
      (from label : ℕ) → t.top.mode ≡ Mode.Entering from label
      → (is_coroutine c.b t.top.func ≡ true) × IsOnWay c t label

  calm : (t : State) → IsNotEntering t.top.mode → IsOnAnyWay t
  calm t h from label e = absurd (subst IsNotEntering e h)

  -- the next flagged alloca of an entry
  module _ (func : ℕ) (coroutine : is_coroutine c.b func ≡ true) where
    abbrev x : Framing
    x = c.b.framing func

    framing : IsFraming x
    framing = all.given.framings func coroutine

    code : function_at c.g.given.code func ≡ edged x
    code = all.given.coroutines func coroutine

    -- instructions of the entry, and back
    fetched : (q : ℕ) (i : Instr) → slice_get (instrs_at x 0) q ≡ Some i
        → fetch (function_at c.g.given.code func) 0 q ≡ AtInstr i
    fetched q i e = ap (λ (f : Function). fetch f 0 q) code ∙ fetched_entry x (entry_there x framing) q i e

    stands : (q : ℕ) (i : Instr) → fetch (function_at c.g.given.code func) 0 q ≡ AtInstr i
        → slice_get (instrs_at x 0) q ≡ Some i
    stands q i e = instr_in x (function_at c.g.given.code func) code 0 q i e

    next : (at : ℕ) (p : Point) → renewed_from (c.g.flags func) (function_at c.g.given.code func) at ≡ Some p
        → IsNextPoint x (entry_there x framing) (c.g.flags func) at p
    next at p e = next_at x (entry_there x framing) (c.g.flags func) at p
        (ap (λ (f : Function). renewed_from (c.g.flags func) f at) (sym code) ∙ e)

  -- a function that is none makes no slot anew
  is_one : (func at : ℕ) (p : Point)
      → renewed_from (c.g.flags func) (function_at c.g.given.code func) at ≡ Some p → is_coroutine c.b func ≡ true
  is_one func at p e = on (is_coroutine c.b func) refl
    where
      on : (b : Bool) → is_coroutine c.b func ≡ b → is_coroutine c.b func ≡ true
      on true d = d
      on false d =
          let none : None ≡ Some p =
          sym (none_from (c.g.flags func) (λ a. all.flags func a d) (function_at c.g.given.code func) at) ∙ e in
          absurd (cc)

  -- ---- a coroutine is woken

  module _ (s : State) (sound : IsSound c.g.given.code s) (v : Value) (y : Sleeper) (finds : sleeper_at s v ≡ Ok y)
      (label : ℕ)
      (leads : (label ≡ resume_label (function_at c.g.given.code y.instance.coroutine) y.suspend)
      ⊎ (label ≡ destroy_label (function_at c.g.given.code y.instance.coroutine) y.suspend)) where
    abbrev own : ℕ
    own = y.instance.coroutine

    abbrev env : Env
    env = kept (c.g.keep own y.suspend) y.values

    abbrev pushed : State
    pushed = push (with_status s y.number y.instance Status.Running) (resumed y.number y.instance y.suspend env)

    asleep : IsAsleepAt s y
    asleep = asleep_there s v y finds

    suspends : IsSuspendAt (function_at c.g.given.code own) y.suspend
    suspends = (subst (IsSoundStatus c.g.given.code own) asleep.status
        (sound.instances y.number y.instance asleep.got)).1

    module _ (p : Point) (first : renewed_from (c.g.flags own) (function_at c.g.given.code own) 0 ≡ Some p)
        (coroutine : is_coroutine c.b own ≡ true) where
      abbrev z : IsNextPoint (c.b.framing own) (entry_there (c.b.framing own) (framing own coroutine))
          (c.g.flags own) 0 p
      z = next own coroutine 0 p first

      abbrev n : IsNextAt (c.g.flags own) (instrs_at (c.b.framing own) 0) 0 z.next
      n = z.found_there

      number : (j : ℕ) × IsSuspendNumber (c.b.framing own) j y.suspend
      number = numbered (is_call_of Intrinsic.CoroSuspend) (edged (c.b.framing own)) y.suspend suspends.instr
          (ap (λ (f : Function). instr_at f y.suspend) (sym (code own coroutine))
          ∙ suspends.is) suspends.suspends

      abbrev woken : State
      woken = renew_after c.g pushed y.suspend.block label (Some p)

      woken_way : IsOnWay c woken label
      woken_way = record {
        order = number.0;
        suspend = y.suspend;
        number = number.1;
        leads = ⊎_elim
            (λ e. inl (e ∙ ap (λ (f : Function). resume_label f y.suspend) (code own coroutine)))
            (λ e. inr (e ∙ ap (λ (f : Function). destroy_label f y.suspend) (code own coroutine))) leads;
        entry_block = ap (λ (q : Point). q.block) z.is;
        name = n.name;
        ty = n.ty;
        align = n.align;
        there =
            ap (λ (q : Point). fetch (function_at c.g.given.code own) 0 q.at) z.is
            ∙ fetched own coroutine z.next (Instr.Alloca n.name n.ty n.align) n.there;
        flagged = n.flagged;
        unhanded = λ u out off. kept_out (c.g.keep own y.suspend) y.values u out;
        made = λ q u align ty e lt flag.
            let at : p.at ≡ z.next = ap (λ (q : Point). q.at) z.is in
            absurd (false≢true (sym (n.before q u align ty (omega arith) (omega (arith, at, lt))
            (stands own coroutine q (Instr.Alloca u ty align) e)) ∙ flag));
      }

    goes : IsOnAnyWay (continue_renewed c.g s y.number y.instance y.suspend y.values label)
    goes = on (renewed_from (c.g.flags own) (function_at c.g.given.code own) 0) refl
      where
        on : (o : Option Point) → renewed_from (c.g.flags own) (function_at c.g.given.code own) 0 ≡ o
            → IsOnAnyWay (renew_after c.g pushed y.suspend.block label o)
        on None e = calm (renew_after c.g pushed y.suspend.block label None) tt
        on (Some p) e = λ from other mode.
            let coroutine = is_one own 0 p e in (
              coroutine,
              subst (IsOnWay c (renew_after c.g pushed y.suspend.block label (Some p)))
                  (same_label y.suspend.block from label other mode) (woken_way p e coroutine),
            )

  -- ---- a slot is made anew

  module _ (s : State) (sound : IsSound c.g.given.code s) (coroutine : is_coroutine c.b s.top.func ≡ true)
      (from label : ℕ) (h : IsOnWay c s label) where
    abbrev func : ℕ
    func = s.top.func

    abbrev at : ℕ
    at = s.top.at

    abbrev made : State
    made = made_anew c.g s h.name h.ty h.align

    here : slice_get (instrs_at (c.b.framing func) 0) at ≡ Some (Instr.Alloca h.name h.ty h.align)
    here = stands func coroutine at (Instr.Alloca h.name h.ty h.align) h.there

    low : h.name < length s.top.values
    low =
        subst (λ (k : ℕ). h.name < k)
        (sym (sound.top.values ∙ ap (λ (f : Function). length f.names) (code func coroutine)))
        (result_low (c.b.framing func) (framing func coroutine) 0 at h.name
        (Instr.Alloca h.name h.ty h.align) here refl)

    module _ (p : Point)
        (follows : renewed_from (c.g.flags func) (function_at c.g.given.code func) (at + 1) ≡ Some p) where
      abbrev y : IsNextPoint (c.b.framing func) (entry_there (c.b.framing func) (framing func coroutine))
          (c.g.flags func) (at + 1) p
      y = next func coroutine (at + 1) p follows

      abbrev m : IsNextAt (c.g.flags func) (instrs_at (c.b.framing func) 0) (at + 1) y.next
      m = y.found_there

      abbrev after : State
      after = renew_after c.g made from label (Some p)

      made_now : (q u align : ℕ) (ty : Ty) → fetch (function_at c.g.given.code func) 0 q
          ≡ AtInstr (Instr.Alloca u ty align)
          → q < y.next → c.g.flags func u ≡ true → (k : ℕ) × (value_in made.top.values u ≡ pointer_to k)
      made_now q u align ty e lt flag = ⊎_elim
          (λ same. (
            length s.world.memory,
            ap (value_in made.top.values) (sym same)
                ∙ set_now s.top.values h.name (pointer_to (length s.world.memory)) low,
          ))
          (λ apart.
          let old = before apart in
          (old.0, set_apart s.top.values h.name u (pointer_to (length s.world.memory)) apart ∙ old.1))
          (cases_eq h.name u)
        where
          before : (h.name ≡ u → ⊥) → (k : ℕ) × (value_in s.top.values u ≡ pointer_to k)
          before apart = ⊎_elim (λ less. h.made q u align ty e less flag)
              (λ le. ⊎_elim
              (λ more. absurd (false≢true (sym (m.before q u align ty (omega (arith, more)) lt
              (stands func coroutine q (Instr.Alloca u ty align) e)) ∙ flag)))
              (λ ge.
              let eq : q ≡ at = omega (arith, le, ge) in
              let both : AtInstr (Instr.Alloca h.name h.ty h.align) ≡ AtInstr (Instr.Alloca u ty align) =
              sym h.there ∙ ap (fetch (function_at c.g.given.code func) 0) (sym eq) ∙ e in
              absurd (apart (cc)))
              (cases_lt at q)) (cases_lt q at)

      after_way : IsOnWay c after label
      after_way = record {
        order = h.order;
        suspend = h.suspend;
        number = h.number;
        leads = h.leads;
        entry_block = ap (λ (q : Point). q.block) y.is;
        name = m.name;
        ty = m.ty;
        align = m.align;
        there =
            ap (λ (q : Point). fetch (function_at c.g.given.code func) 0 q.at) y.is
            ∙ fetched func coroutine y.next (Instr.Alloca m.name m.ty m.align) m.there;
        flagged = m.flagged;
        unhanded = λ u out off.
            set_apart s.top.values h.name u (pointer_to (length s.world.memory))
            (λ same. false≢true (sym off ∙ ap (c.g.flags func) (sym same) ∙ h.flagged))
            ∙ h.unhanded u out off;
        made = λ q u align ty e lt flag.
            let place : p.at ≡ y.next = ap (λ (q : Point). q.at) y.is in
            made_now q u align ty e (omega (arith, place, lt)) flag;
      }

    made_way : IsOnAnyWay (renew_after c.g made from label
        (renewed_from (c.g.flags func) (function_at c.g.given.code func) (at + 1)))
    made_way = on (renewed_from (c.g.flags func) (function_at c.g.given.code func) (at + 1)) refl
      where
        on : (o : Option Point) → renewed_from (c.g.flags func) (function_at c.g.given.code func) (at + 1) ≡ o
            → IsOnAnyWay (renew_after c.g made from label o)
        on None e = calm (renew_after c.g made from label None) tt
        on (Some p) e = λ from' other mode. (
          coroutine,
          subst (IsOnWay c (renew_after c.g made from label (Some p))) (same_label from from' label other mode)
              (after_way p e),
        )

  -- ---- a step

  module _ (s : State) (sound : IsSound c.g.given.code s) (called : IsCalledState c.g.given.code s) where
    way_step : IsOnAnyWay s → IsOnAnyWay (renewed_step c.g s)
    way_step h = by s.top.mode refl
      where
        still : IsNotEntering s.top.mode → IsOnAnyWay (renewed_step c.g s)
        still calm_mode =
            subst IsOnAnyWay (sym (renewed_steps c.g s))
            (step_stays (renewed_hooks c.g) (renewed_modes c.g) IsOnAnyWay (λ t h below. calm t h) s
            (calm_by s.top.instance s.top.mode calm_mode called.mode).0
            (all_still c.g.given.code s.top.result s.below called.below)
            (λ v y finds label leads below. goes s sound v y finds label leads))

        ended : (o : Outcome) → s.outcome ≡ o → renewed_advance c.g s o ≡ s → IsOnAnyWay (renewed_step c.g s)
        ended o e same = subst IsOnAnyWay (sym (ap (renewed_advance c.g s) e ∙ same)) h

        enters : (from label : ℕ) → s.top.mode ≡ Mode.Entering from label → (o : Outcome) → s.outcome ≡ o
            → IsOnAnyWay (renewed_step c.g s)
        enters from label mode (Outcome.Returned v) e = ended (Outcome.Returned v) e refl
        enters from label mode (Outcome.Undefined cause place) e = ended (Outcome.Undefined cause place) e refl
        enters from label mode Outcome.Running e =
            let w : (is_coroutine c.b s.top.func ≡ true) × IsOnWay c s label = h from label mode in
            subst IsOnAnyWay
            (sym (entering_step c.g s from label w.1.name w.1.align w.1.ty e mode
            (ap (λ (b : ℕ). fetch (function_of c.g.given s) b s.top.at) w.1.entry_block ∙ w.1.there) w.1.flagged
            ((waking.slots.each s.top.func).aligned w.1.name s.top.at w.1.ty w.1.align w.1.flagged w.1.there)))
            (made_way s sound w.0 from label w.1)

        by : (mode : Mode) → s.top.mode ≡ mode → IsOnAnyWay (renewed_step c.g s)
        by (Mode.Entering from label) e = enters from label e s.outcome refl
        by Mode.Plain e = still (subst IsNotEntering (sym e) tt)
        by Mode.Ramp e = still (subst IsNotEntering (sym e) tt)
        by Mode.Resumed e = still (subst IsNotEntering (sym e) tt)
        by (Mode.GivenRamp frame) e = still (subst IsNotEntering (sym e) tt)

  -- ---- runs

  pub way_states : (entry : ℕ) (args : List Word)
      → ((n : ℕ) → IsSound c.g.given.code (iterate (renewed_step c.g) n (first_state c.g.given.code entry args)))
      → ((n : ℕ) → IsCalledState c.g.given.code (iterate (renewed_step c.g) n (first_state c.g.given.code entry args)))
      → (n : ℕ) → IsOnAnyWay (iterate (renewed_step c.g) n (first_state c.g.given.code entry args))
  way_states entry args sound called zero = calm (first_state c.g.given.code entry args) tt
  way_states entry args sound called (suc n) =
      subst IsOnAnyWay (sym (one_more n (first_state c.g.given.code entry args)))
      (way_step (iterate (renewed_step c.g) n (first_state c.g.given.code entry args)) (sound n) (called n)
      (way_states entry args sound called n))
    where
      one_more : (n : ℕ) (s : State) → iterate (renewed_step c.g) (suc n) s
          ≡ renewed_step c.g (iterate (renewed_step c.g) n s)
      one_more zero s = refl
      one_more (suc n) s = one_more n (renewed_step c.g s)
