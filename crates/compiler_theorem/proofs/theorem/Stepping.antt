-- States of the two runs between which frames are built are what laws on steps ask.
use Rattle.std.proofs.Common.{◌≡◌, ℕ, Bool, true, false, List, length, map, refl, sym, ap, ◌∙◌, subst}
use Rattle.std.proofs.lemmas.Bool.{false≢true}
use Rattle.std.specs.Prelude.{All, None, Option, Some, slice_get, unwrap_or, ◌==◌, ◌&&◌}
use Rattle.compiler.proofs.pass_proofs.rule_laws.rules.function_rules.Stages.{rules_larger}
use Rattle.compiler.specs.rule_names.declared.stage.Stage.{Stage}
use Rattle.compiler.proofs.whole.lowered_sources.Row.{is_ready}
use Rattle.compiler.specs.cleanup.accepted.Ready.{IsReady}
use Rattle.compiler_theorem.proofs.theorem.Renewing.{all_kept}
use Rattle.compiler_theorem.specs.theorem.Anew.{Anew, IsAnewOf}
use Rattle.compiler_theorem.specs.theorem.Built.{building}
use Rattle.compiler_theorem.specs.theorem.Entries.{IsEntryCall, Run}
use Rattle.compiler_theorem.specs.theorem.Lowered.{HasFewBytes, IsLowered, Lowered, early, edged, sizes_of}
use Rattle.compiler_theorem.specs.theorem.Between.{renewing}
use Rattle.compiler.specs.ir_base.declared.name.Name.{Name}
use Rattle.compiler.proofs.ir_laws.facts.Truth.{and_first, and_second}
use Rattle.compiler.proofs.ir_laws.facts.same_names.Lists.{what_is_found}
use Rattle.compiler.specs.ir_model.Names.{function_at, no_function, noalloc_of, same_name}
use Rattle.compiler.specs.ir_model.Ty.{Ty}
use Rattle.compiler.specs.ir_model.declared.instr.Instr.{Instr}
use Rattle.compiler.specs.ir_model.declared.module.Block.{Block}
use Rattle.compiler.specs.ir_model.declared.module.Function.{Function}
use Rattle.compiler.specs.ir_model.declared.operand.Arg.{Arg}
use Rattle.compiler.specs.ir_model.declared.operand.Callee.{Callee}
use Rattle.compiler.specs.ir_paths.Facts.{IsWindow}
use Rattle.compiler.specs.ir_paths.Windows.{instr_at, instr_in}
use Rattle.compiler.specs.ir_paths.declared.point.Window.{Window}
use Rattle.compiler.specs.ir_paths.declared.point.Point.{Point}
use Rattle.compiler.proofs.ir_tables.Tables.{same_name-same}
use Rattle.compiler.specs.pass_exits.ExitBlocks.{with_exit_blocks}
use Rattle.pass_frames_meaning.proofs.called.CalledHooks.{renewed_keeps_called, states_called}
use Rattle.pass_frames_meaning.proofs.led.SoundRuns.{runs_sound}
use Rattle.pass_frames_meaning.specs.Called.{IsCalledState}
use Rattle.compiler.proofs.pass_proofs.exits.states.Points.{instr_moved, moved}
use Rattle.pass_frames_meaning.proofs.pass_renewed_meaning.Tables.{same_windows}
use Rattle.pass_frames_meaning.specs.pass_renewed_proof.Renewed.{RenewedGiven, renewed_step}
use Rattle.pass_split_proof.proofs.ready.Callees.{callee_known}
use Rattle.pass_split_proof.proofs.ready.Gives.{unknown_ramp}
use Rattle.compiler.proofs.rule_laws.rules.sources.Places.{instr_there, point}
use Rattle.compiler.specs.rule_names.Known.{knows_name}
use Rattle.run_accepted.proofs.Accepted.{edged_places, edged_switches}
use Rattle.compiler.specs.run_framed.Framed.{FramedGiven, framed_state_at, framed_step, given_ramp}
use Rattle.pass_frames_meaning.proofs.run_hooks.Keeping.{renewed_keeps}
use Rattle.pass_frames_meaning.proofs.run_hooks.PlacedKeeping.{renewed_keeps_placed}
use Rattle.pass_frames_meaning.proofs.run_hooks.PlacedSteps.{states_placed}
use Rattle.pass_frames_meaning.proofs.run_hooks.Steps.{framed_steps, renewed_steps, same_runs}
use Rattle.pass_frames_meaning.specs.run_hooks.Away.{KeepsAllPlaceRules}
use Rattle.pass_frames_meaning.specs.run_hooks.Hooks.{hooked_state_at, step_of}
use Rattle.pass_frames_meaning.specs.run_hooks.Meanings.{framed_hooks, renewed_hooks}
use Rattle.pass_frames_meaning.specs.run_hooks.Reached.{AllHaveSwitches}
use Rattle.pass_frames_meaning.proofs.run_slots.Meanings.{framed_keeps_slots, renewed_keeps_slots}
use Rattle.pass_frames_meaning.proofs.run_slots.Steps.{states_slotted}
use Rattle.pass_frames_meaning.specs.run_slots.Slots.{GivesNoFrames, IsSlottedState}
use Rattle.compiler.specs.run_source.Source.{first_state}
use Rattle.compiler.specs.run_source.declared.state.State.{State}
use Rattle.compiler.specs.run_states.sound_states.Sound.{IsSound}
use Rattle.compiler.specs.run_step.Runs.{iterate}
use Rattle.compiler.specs.run_step.Step.{AtInstr, fetch, fetch_in, fetch_or}
use Rattle.pass_frames_meaning.proofs.run_types.Meanings.{renewed_keeps_fitting}
use Rattle.pass_frames_meaning.proofs.run_types.Runs.{states_fit}
use Rattle.pass_frames_meaning.specs.run_types.States.{IsFittingState}

-- ---- no call of a framed form gives a frame

fetched : (h : Function) (p : Point) (i : Instr) → instr_at h p ≡ Some i → fetch h p.block p.at ≡ AtInstr i
fetched h p i e = on (slice_get h.blocks p.block) e
  where
    on : (o : Option Block) → instr_in o p.at ≡ Some i → fetch_in o p.at ≡ AtInstr i
    on None d = absurd (cc)
    on (Some b) d = ap (λ (o : Option Instr). fetch_or o (p.at == length b.instrs) b.term) d

module _ (l : Lowered) (low : IsLowered l) where
  ready : IsReady l.layouts l.framed
  ready = is_ready l.text l.source low.source.stands low.source.accepted l.share l.layouts low.laid l.framed
      low.is_framed

  module _ (block at : ℕ) (result : Option ℕ) (must_tail : Bool) (ty : Option Ty) (n : Name) (args : List Arg) where
    abbrev call : Instr
    call = Instr.Call result must_tail ty (Callee.Named n) args

    known_in : (k : ℕ) (g : Function) → slice_get l.framed.functions k ≡ Some g → fetch g block at ≡ AtInstr call
        → knows_name l.framed n ≡ true
    known_in k g there here = on g.coroutine refl
      where
        on : (c : Bool) → g.coroutine ≡ c → knows_name l.framed n ≡ true
        on false c = callee_known l.framed k g
            (rules_larger Stage.Source l.framed k g (ready.plain k g there c).rules) block at result must_tail ty args n
            here
        on true c =
            let p = moved g (point block at) in
            callee_known l.framed k (with_exit_blocks g)
            (rules_larger Stage.Source l.framed k (with_exit_blocks g) (ready.coroutines k g there c).splittable.rules)
            p.block p.at result must_tail ty args n
            (fetched (with_exit_blocks g) p call (instr_moved g (point block at) ∙ instr_there g block at call here))

    known : (func : ℕ) → fetch (function_at l.framed func) block at ≡ AtInstr call → knows_name l.framed n ≡ true
    known func here = on (slice_get l.framed.functions func) refl here
      where
        on : (o : Option Function) → slice_get l.framed.functions func ≡ o
            → fetch (unwrap_or o no_function) block at ≡ AtInstr call → knows_name l.framed n ≡ true
        on None e h = absurd (cc)
        on (Some g) e h = known_in func g e h

    none_given : knows_name l.framed n ≡ true → (o : Option ℕ) → given_ramp l.framed n ≡ o
        → given_ramp l.framed n ≡ None
    none_given is None d = d
    none_given is (Some k) d =
        let x = what_is_found (λ (f : Function). f.coroutine && same_name (noalloc_of f.name) n) l.framed.functions k d in
        let same : noalloc_of x.element.name ≡ n
        = same_name-same (noalloc_of x.element.name) n (and_second x.element.coroutine _ x.passes) in
        absurd (false≢true (sym (unknown_ramp l.framed ready.items k x.element x.stands
        (and_first x.element.coroutine _ x.passes)) ∙ ap (knows_name l.framed) same ∙ is))

  pub gives_no_frames : GivesNoFrames l.framed
  gives_no_frames func block at result must_tail ty n args here =
      none_given block at result must_tail ty n args (known block at result must_tail ty n args func here)
      (given_ramp l.framed n) refl

  -- ---- the states of the two runs

  module _ (few : HasFewBytes l) (a : Anew) (anew : IsAnewOf (early l) a) (r : Run) (entered : IsEntryCall l.source r)
    where
      abbrev pub g : RenewedGiven
      g = renewing l a r

      abbrev pub run : ℕ → State
      run n = iterate (renewed_step g) n (first_state (edged l) r.entry r.args)

      pub switches : AllHaveSwitches (edged l)
      switches = edged_switches l.text l.source low.source.stands low.source.accepted

      pub places : KeepsAllPlaceRules g.given
      places =
          let old = edged_places l.text l.source low.source.stands low.source.accepted (sizes_of l) r.answers in
          record {
            each = old.each;
            saves = λ func. ap (map (λ w. (w.save, w.suspend))) (same_windows (edged l) a.flags func) ∙ old.saves func;
            windows = λ func. subst (λ (ws : List Window). All (IsWindow (function_at (edged l) func)) ws)
                (sym (same_windows (edged l) a.flags func)) (old.windows func);
          }

      pub same : (n : ℕ) → run n ≡ hooked_state_at (renewed_hooks g) r.entry r.args n
      same n =
          same_runs (renewed_step g) (step_of (renewed_hooks g)) (renewed_steps g) n
          (first_state (edged l) r.entry r.args)

      pub sound : (n : ℕ) → IsSound (edged l) (run n)
      sound n =
          let all = all_kept l low a anew r entered few in
          runs_sound g r.entry r.args switches places all.types all.locals n

      pub fitting : (n : ℕ) → IsFittingState (edged l) (run n)
      fitting n =
          let all = all_kept l low a anew r entered few in
          subst (IsFittingState (edged l)) (sym (same n))
          (states_fit (renewed_hooks g) switches (renewed_keeps g) all.types (renewed_keeps_fitting g all.types) r.entry
          r.args n all.arguments)

      pub called : (n : ℕ) → IsCalledState (edged l) (run n)
      called n =
          let all = all_kept l low a anew r entered few in
          subst (IsCalledState (edged l)) (sym (same n))
          (states_called (renewed_hooks g) (renewed_keeps_called g) all.types r.entry r.args
          (λ k. states_placed (renewed_hooks g) switches (renewed_keeps g) places (renewed_keeps_placed g) r.entry r.args k)
          n)

      pub slots : (n : ℕ) → IsSlottedState (run n)
      slots n =
          subst IsSlottedState (sym (same n)) (states_slotted (renewed_hooks g) (renewed_keeps_slots g) r.entry r.args n)

      abbrev h : FramedGiven
      h = (building l low.is_framed r.answers).given

      pub other_slots : (n : ℕ) → IsSlottedState (framed_state_at h r.entry r.args n)
      other_slots n =
          subst IsSlottedState
          (sym (same_runs (framed_step h) (step_of (framed_hooks h)) (framed_steps h) n
          (first_state l.framed r.entry r.args)))
          (states_slotted (framed_hooks h) (framed_keeps_slots h gives_no_frames) r.entry r.args n)
