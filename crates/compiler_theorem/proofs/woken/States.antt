-- States of accepted sources are as is asked where coroutines are woken, and where slots are made anew.
use Rattle.std.proofs.Common.{◌≡◌, inl, inr, ℕ, Bool, true, false, List, Option, Some, None, refl, sym, ap, ◌∙◌, subst}
use Rattle.std.specs.Prelude.{slice_get}
use Rattle.compiler.proofs.pass_proofs.rule_laws.rules.function_rules.Stages.{rules_larger}
use Rattle.compiler.specs.rule_names.declared.stage.Stage.{Stage}
use Rattle.compiler_theorem.proofs.theorem.Asked.{asked_kept}
use Rattle.compiler_theorem.proofs.theorem.Begins.{begun_once}
use Rattle.compiler_theorem.proofs.theorem.Built.{framings, sources_built}
use Rattle.compiler_theorem.proofs.theorem.Framing.{sources_given}
use Rattle.compiler_theorem.proofs.theorem.Renewing.{all_kept}
use Rattle.compiler_theorem.proofs.theorem.Stepping.{called, gives_no_frames, other_slots, run, same, sound, switches}
use Rattle.compiler_theorem.proofs.woken.FramedRuns.{framed_fit, framed_unfreed}
use Rattle.compiler_theorem.specs.theorem.Anew.{Anew, IsAnewOf}
use Rattle.compiler_theorem.specs.theorem.Asked.{asking}
use Rattle.compiler_theorem.specs.theorem.Between.{renewing}
use Rattle.compiler_theorem.specs.theorem.Built.{building}
use Rattle.compiler_theorem.specs.theorem.Entries.{IsEntryCall, Run}
use Rattle.compiler_theorem.specs.theorem.Lowered.{HasFewBytes, IsLowered, Lowered, early, edged as edged_module}
use Rattle.compiler.specs.frame_classes.Classes.{suspends}
use Rattle.compiler.specs.ir_base.declared.outcome.Outcome.{Outcome}
use Rattle.compiler.proofs.ir_laws.paths.path_rules.Where.{where_has}
use Rattle.compiler.specs.ir_laws.facts.sound_states.Named.{HasNamedLocals}
use Rattle.compiler.specs.ir_model.Names.{function_at}
use Rattle.compiler.specs.ir_model.Ty.{Ty}
use Rattle.compiler.specs.ir_model.declared.instr.Instr.{Instr}
use Rattle.compiler.specs.ir_model.declared.module.Function.{Function}
use Rattle.compiler.specs.ir_model.declared.operand.Arg.{Arg}
use Rattle.compiler.specs.ir_model.declared.operand.Callee.{Callee}
use Rattle.compiler.specs.ir_model.declared.operand.Intrinsic.{Intrinsic}
use Rattle.compiler.specs.ir_paths.Paths.{has_point}
use Rattle.compiler.specs.ir_paths.Windows.{is_call_of}
use Rattle.compiler.specs.ir_paths.declared.point.Point.{Point}
use Rattle.compiler.specs.pass_edges.EdgeBlocks.{with_edge_blocks}
use Rattle.pass_frames_meaning.proofs.begun.Begun.{first}
use Rattle.pass_frames_meaning.proofs.led.Begins.{has_begin}
use Rattle.pass_frames_meaning.proofs.led.LedHooks.{renewed_keeps_led, states_led}
use Rattle.pass_frames_meaning.proofs.led.Tables.{tables_led}
use Rattle.pass_frames_meaning.proofs.others.AtPlace.{function_there}
use Rattle.pass_frames_meaning.proofs.woken.Cells.{cells_states}
use Rattle.pass_frames_meaning.proofs.woken.Way.{way_states}
use Rattle.pass_frames_meaning.specs.Called.{IsCalledState}
use Rattle.pass_frames_meaning.specs.Led.{IsBegin, IsBegunOnce, IsLedState, KeepAllNames, KeepsLedTables}
use Rattle.pass_frames_meaning.specs.Woken.{KeepsWaking, MayEnter, MayWake, none_counts}
use Rattle.pass_frames_meaning.proofs.pass_frames_proof.followed.Assembly.{other_instance}
use Rattle.pass_frames_meaning.specs.pass_frames_proof.Framings.{IsFraming}
use Rattle.pass_frames_meaning.specs.pass_frames_proof.Places.{Framing, edged}
use Rattle.pass_frames_meaning.specs.pass_frames_proof.Related.{AreBuiltOf, IsStatus}
use Rattle.compiler.specs.pass_kept_proof.SuspendRules.{IsCallAt}
use Rattle.compiler.proofs.pass_proofs.edges.simulation.Names.{locals_named}
use Rattle.compiler.proofs.pass_proofs.edges.sources.Accepted.{locals_now}
use Rattle.compiler.proofs.pass_proofs.kept.sources.Whole.{split_rules}
use Rattle.pass_frames_meaning.specs.pass_renewed_proof.Renewed.{RenewedGiven}
use Rattle.pass_split_proof.proofs.ready.Begins.{begin_makes, begin_name_is}
use Rattle.pass_split_proof.proofs.ready.Intrinsics.{in_coroutine}
use Rattle.compiler.proofs.rule_laws.rules.sources.Places.{instr_there}
use Rattle.compiler.specs.rule_locals.Intrinsics.{is_inner}
use Rattle.compiler.specs.rule_laws.rules.function_rules.Kept.{KeepsFunctionRules}
use Rattle.compiler.specs.run_framed.Framed.{FramedGiven, begin_name, enter_given, framed_state_at, given_call}
use Rattle.pass_frames_meaning.proofs.run_hooks.Keeping.{renewed_keeps}
use Rattle.pass_frames_meaning.proofs.run_hooks.Reaching.{states_reached}
use Rattle.pass_frames_meaning.specs.run_hooks.Meanings.{renewed_hooks}
use Rattle.pass_frames_meaning.specs.run_slots.Slots.{GivesNoFrames}
use Rattle.compiler.specs.run_source.State.{function_of, is_suspended}
use Rattle.compiler.specs.run_source.declared.state.Instance.{Instance}
use Rattle.compiler.specs.run_source.declared.state.State.{State}
use Rattle.compiler.specs.run_source.declared.state.Status.{Status}
use Rattle.compiler.specs.run_states.sound_states.Sound.{HasValues}
use Rattle.compiler.specs.run_step.Step.{AtInstr, Fetched, fetch}
use Rattle.compiler.specs.run_step.Values.{arg_values}

-- no call gives a frame
pub none_given : (g : FramedGiven) → GivesNoFrames g.given.code → (s : State) (block at : ℕ)
    → given_call g s (fetch (function_of g.given s) block at) ≡ None
none_given g gives s block at = on (fetch (function_of g.given s) block at) refl
  where
    on : (x : Fetched) → fetch (function_of g.given s) block at ≡ x → given_call g s x ≡ None
    on (AtInstr (Instr.Call result must_tail ty (Callee.Named n) args)) e =
        ap (enter_given g s result (arg_values g.given.code s.top.values args))
        (gives s.top.func block at result must_tail ty n args e)
    on _ e = refl

module _ (l : Lowered) (low : IsLowered l) (few : HasFewBytes l) (a : Anew) (anew : IsAnewOf (early l) a) (r : Run)
    (entered : IsEntryCall l.source r) where
  abbrev m : RenewedGiven
  m = renewing l a r

  abbrev E : ℕ → Function
  E func = function_at (edged_module l) func

  rules : (func : ℕ) → slice_get (edged_module l).functions func ≡ Some (E func)
      → KeepsFunctionRules (edged_module l) func (E func)
  rules func there = split_rules l.text l.source low.source.stands low.source.accepted func (E func) there

  names : (func : ℕ) → HasNamedLocals (E func)
  names = locals_named (early l) (locals_now l.text l.source low.source.stands low.source.accepted)

  plain_is : (func : ℕ) → (function_at (early l) func).coroutine ≡ false → E func ≡ function_at (early l) func
  plain_is func plain = (sources_given l low a r).others func plain

  coroutine_is : (func : ℕ) → (function_at (early l) func).coroutine ≡ true
      → E func ≡ with_edge_blocks (function_at (early l) func)
  coroutine_is func c =
      (sources_given l low a r).coroutines func c
      ∙ ap with_edge_blocks ((sources_built l low r.answers).coroutines func c).function

  -- K1
  inner_there : (func block at : ℕ) (result : Option ℕ) (must_tail : Bool) (ty : Option Ty) (x : Intrinsic)
      (args : List Arg) → fetch (E func) block at ≡ AtInstr (Instr.Call result must_tail ty (Callee.Intrinsic x) args)
      → is_inner x ≡ true → (function_at (early l) func).coroutine ≡ true
  inner_there func block at result must_tail ty x args here inner = on (function_at (early l) func).coroutine refl
    where
      i : Instr
      i = Instr.Call result must_tail ty (Callee.Intrinsic x) args

      on : (b : Bool) → (function_at (early l) func).coroutine ≡ b → b ≡ true
      on true e = refl
      on false e =
          sym (ap (λ (f : Function). f.coroutine) (plain_is func e) ∙ e)
          ∙ in_coroutine (edged_module l) func (E func)
          (rules_larger Stage.Source (edged_module l) func (E func)
          (rules func (function_there (edged_module l) func block at i here))) block at result must_tail ty x args here
          inner

  -- ---- begin's name

  begins : (func v : ℕ) → begin_name (E func) ≡ Some v → IsBegunOnce (E func) v
  begins func v e =
      let b = has_begin (E func) v e in
      begun_once (edged_module l) func (E func)
      (rules func (function_there (edged_module l) func b.point.block b.point.at b.instr b.stands)) (names func) v e

  given : (func block at : ℕ) (result : Option ℕ) (must_tail : Bool) (ty : Option Ty) (args : List Arg)
      → fetch (E func) block at
      ≡ AtInstr (Instr.Call result must_tail ty (Callee.Intrinsic Intrinsic.CoroBegin) args)
      → begin_name (E func) ≡ result
  given func block at result must_tail ty args here =
      let i : Instr = Instr.Call result must_tail ty (Callee.Intrinsic Intrinsic.CoroBegin) args in
      let c = inner_there func block at result must_tail ty Intrinsic.CoroBegin args here refl in
      let is : IsFraming ((building l low.is_framed r.answers).framing func) = framings l low r.answers func c in
      let x : Framing = (building l low.is_framed r.answers).framing func in
      let h = is.frameable in
      let same = (sources_given l low a r).coroutines func c in
      let wide = rules_larger Stage.Source x.code is.position (edged x) h.rules in
      ap begin_name same
      ∙ begin_name_is x.code is.position (edged x) wide is.begin (first x is) h.coroutine h.calls
      ∙ sym (begin_makes x.code is.position (edged x) wide is.begin (first x is) h.coroutine h.calls block at i
      (sym (ap (λ (f : Function). fetch f block at) same) ∙ here) refl)

  all_names : KeepAllNames m.given none_counts
  all_names func = record {
    made = λ v e. absurd (cc);
    shared = λ slot e. absurd (cc);
    begins = begins func;
    given = given func;
  }

  handed : (func : ℕ) (u : Point) (v : ℕ) → IsCallAt Intrinsic.CoroSuspend (E func) u → begin_name (E func) ≡ Some v
      → a.keep func u v ≡ true
  handed func u v call e =
      let b = has_begin (E func) v e in
      let c = on_begin b.point.block b.point.at b.instr b.stands b.begins in
      let same = coroutine_is func c in
      let point : has_point (suspends (E func)) u ≡ true =
      where_has (is_call_of Intrinsic.CoroSuspend) (E func) u call.instr
      (instr_there (E func) u.block u.at call.instr call.stands) call.is in
      ((anew func).keep_is u v (subst (λ (f : Function). has_point (suspends f) u ≡ true) same point)).1
      (inr (inl (ap begin_name (sym same) ∙ e)))
    where
      on_begin : (block at : ℕ) (i : Instr) → fetch (E func) block at ≡ AtInstr i → IsBegin i
          → (function_at (early l) func).coroutine ≡ true
      on_begin block at (Instr.Call result must_tail ty (Callee.Intrinsic Intrinsic.CoroBegin) args) here is =
          inner_there func block at result must_tail ty Intrinsic.CoroBegin args here refl
      on_begin block at _ here is = absurd is

  tables : KeepsLedTables m none_counts
  tables = tables_led m none_counts (all_kept l low a anew r entered few).slots all_names
      (λ func v e. absurd (cc)) handed

  led : (n : ℕ) → IsLedState (edged_module l) none_counts (run l low few a anew r entered n)
  led n =
      let all = all_kept l low a anew r entered few in
      let e = same l low few a anew r entered in
      subst (IsLedState (edged_module l) none_counts) (sym (e n)) (states_led (renewed_hooks m) none_counts
      (renewed_keeps_led m none_counts all_names tables) all_names all.types r.entry r.args
      (λ k. states_reached (renewed_hooks m) (switches l low few a anew r entered) (renewed_keeps m) r.entry r.args k)
      (λ k. subst (IsCalledState (edged_module l)) (e k) (called l low few a anew r entered k))
      (λ k. subst (λ (s : State). HasValues (edged_module l) s.top.func s.top.values) (e k)
      (sound l low few a anew r entered k).top.values) n)

  -- ---- states

  abbrev h : FramedGiven
  h = (building l low.is_framed r.answers).given

  abbrev t : ℕ → State
  t n = framed_state_at h r.entry r.args n

  module _ (n k : ℕ) (built : AreBuiltOf (building l low.is_framed r.answers) (run l low few a anew r entered n) (t k))
    where
      abbrev s : State
      s = run l low few a anew r entered n

      unfreed : (i : ℕ) (x : Instance) → slice_get s.instances i ≡ Some x → is_suspended x.status ≡ true
          → x.freed ≡ false
      unfreed i x e sleeps =
          let y = other_instance (building l low.is_framed r.answers) s (t k) built i x e in
          sym y.2.freed
          ∙ framed_unfreed l low a anew r entered k i y.0 y.1 (sleeps_too x.status y.0.status sleeps y.2.status)
        where
          sleeps_too : (u v : Status) → is_suspended u ≡ true
              → IsStatus (building l low.is_framed r.answers) built.homes (t k) x
              (other_instance (building l low.is_framed r.answers) s (t k) built i x e).0 u v → is_suspended v ≡ true
          sleeps_too Status.Running v d is = absurd (cc)
          sleeps_too Status.Finished v d is = absurd (cc)
          sleeps_too (Status.Suspended p env) v d is = ap is_suspended is.2

      pub may_wake : s.outcome ≡ Outcome.Running → MayWake (asking l low a r) s
      may_wake runs = record { led = led n runs; unfreed = unfreed }

      pub may_enter : KeepsWaking (asking l low a r) → MayEnter (asking l low a r) s (t k)
      may_enter waking = record {
        way = λ from label e. (way_states (asking l low a r) (asked_kept l low few a anew r) waking r.entry r.args
            (sound l low few a anew r entered) (called l low few a anew r entered) n from label e).1;
        cells = cells_states (asking l low a r) (asked_kept l low few a anew r) waking
            (none_given h (gives_no_frames l low)) r.entry r.args (framed_fit l low a anew r entered)
            (other_slots l low few a anew r entered) k;
      }
