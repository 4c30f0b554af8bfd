-- What is known of each state of the run of an accepted source that makes slots anew.
use Rattle.std.proofs.Common.{◌≡◌, ℕ, Bool, zero, suc, true, List, [], ◌∷◌, refl, sym, ap, ◌∙◌}
use Rattle.std.proofs.Common.{Option, subst}
use Rattle.std.specs.List.{AllByRecursion}
use Rattle.std.specs.Prelude.{unwrap_or}
use Rattle.compiler_theorem.proofs.known.Classes.{source_markers}
use Rattle.compiler_theorem.proofs.known.Names.{names_kept, own_kept, tables_kept}
use Rattle.compiler_theorem.proofs.known.Sources.{source_known, source_marks}
use Rattle.compiler_theorem.proofs.theorem.Asked.{asked_kept}
use Rattle.compiler_theorem.proofs.theorem.Renewing.{all_kept, edged_entry, slots_kept}
use Rattle.compiler_theorem.proofs.theorem.Stepping.{called, fitting, places, same, slots, sound, switches}
use Rattle.compiler_theorem.specs.known.Counts.{counts, own}
use Rattle.compiler_theorem.specs.theorem.Anew.{Anew, IsAnewOf}
use Rattle.compiler_theorem.specs.theorem.Asked.{asking}
use Rattle.compiler_theorem.specs.theorem.Between.{renewing}
use Rattle.compiler_theorem.specs.theorem.Entries.{IsEntryCall, IsIntegerParam, Run}
use Rattle.compiler_theorem.specs.theorem.Lowered.{HasFewBytes, IsLowered, Lowered, early, edged}
use Rattle.compiler.specs.ir_base.declared.outcome.Outcome.{Outcome}
use Rattle.compiler.specs.ir_model.Names.{no_function}
use Rattle.compiler.specs.ir_model.Ty.{Ty, int, ptr}
use Rattle.compiler.specs.ir_model.declared.module.Function.{Function}
use Rattle.compiler.specs.ir_model.declared.module.Param.{Param}
use Rattle.compiler.specs.ir_model.declared.operand.Arg.{Arg}
use Rattle.pass_frames_meaning.proofs.anew.Anew.{states_anew}
use Rattle.pass_frames_meaning.proofs.anew.Renewed.{renewed_keeps_anew}
use Rattle.pass_frames_meaning.proofs.executed.Executed.{states_executed}
use Rattle.pass_frames_meaning.proofs.executed.Renewed.{renewed_keeps_executed}
use Rattle.pass_frames_meaning.proofs.known.Marked.{plain_marked}
use Rattle.pass_frames_meaning.proofs.known.Markers.{may_mark}
use Rattle.pass_frames_meaning.proofs.known.Operands.{may_follow}
use Rattle.pass_frames_meaning.proofs.led.LedHooks.{renewed_keeps_led, states_led}
use Rattle.pass_frames_meaning.proofs.pointers.Renewed.{renewed_keeps_pointing}
use Rattle.pass_frames_meaning.proofs.pointers.Runs.{states_point}
use Rattle.pass_frames_meaning.proofs.pointers.Storables.{results_stored, storables}
use Rattle.pass_frames_meaning.proofs.sized.Hooks.{renewed_keeps_slots}
use Rattle.pass_frames_meaning.proofs.sized.Renewed.{renewed_keeps_sizes}
use Rattle.pass_frames_meaning.proofs.sized.Sized.{states_sized}
use Rattle.pass_frames_meaning.proofs.unbegun.Renewed.{renewed_keeps_unbegun}
use Rattle.pass_frames_meaning.proofs.unbegun.Unbegun.{states_unbegun}
use Rattle.pass_frames_meaning.specs.Anew.{IsAnewState}
use Rattle.pass_frames_meaning.specs.Called.{IsCalledState}
use Rattle.pass_frames_meaning.specs.Coroutines.{HasStorables, MayFollow, MayMark}
use Rattle.pass_frames_meaning.specs.Executed.{IsExecutedState}
use Rattle.pass_frames_meaning.specs.Known.{IsKnown}
use Rattle.pass_frames_meaning.specs.Led.{IsLedState}
use Rattle.pass_frames_meaning.specs.Marks.{AreMarkedSlotsThere}
use Rattle.pass_frames_meaning.specs.Pointers.{HasNoPointers, IsPointingState}
use Rattle.pass_frames_meaning.specs.Setting.{MayStep}
use Rattle.pass_frames_meaning.specs.Sized.{IsSizedAt, IsSizedState}
use Rattle.pass_frames_meaning.specs.Spared.{AreFieldsApart}
use Rattle.pass_frames_meaning.specs.Unbegun.{IsUnbegunState}
use Rattle.pass_frames_meaning.specs.pass_frames_proof.Marking.{marking}
use Rattle.pass_frames_meaning.specs.pass_frames_proof.Related.{AreBuiltOf, is_coroutine}
use Rattle.pass_frames_meaning.specs.pass_frames_proof.Stepping.{IsNotEntering}
use Rattle.pass_frames_meaning.specs.pass_renewed_proof.Renewed.{RenewedGiven, renewed_step}
use Rattle.pass_frames_meaning.proofs.run_hooks.Keeping.{renewed_keeps}
use Rattle.pass_frames_meaning.proofs.run_hooks.Reaching.{states_reached}
use Rattle.pass_frames_meaning.specs.run_hooks.Away.{KeepsAllPlaceRules}
use Rattle.pass_frames_meaning.specs.run_hooks.Hooks.{hooked_state_at}
use Rattle.pass_frames_meaning.specs.run_hooks.Meanings.{renewed_hooks}
use Rattle.pass_frames_meaning.specs.run_hooks.Reached.{AllHaveSwitches}
use Rattle.compiler.specs.run_source.Source.{first_state}
use Rattle.compiler.specs.run_source.State.{function_of}
use Rattle.compiler.specs.run_source.declared.state.State.{State}
use Rattle.compiler.specs.run_states.sound_states.Sound.{HasValues}
use Rattle.compiler.specs.run_step.Runs.{iterate}
use Rattle.compiler.specs.run_step.Step.{AtInstr, fetch}
use Rattle.pass_frames_meaning.specs.run_types.Rules.{KeepsAllTypes}

-- the last step of a run
pub last_step : {S : Type 0} (f : S → S) (n : ℕ) (s : S) → iterate f (suc n) s ≡ f (iterate f n s)
last_step f zero s = refl
last_step f (suc n) s = last_step f n (f s)

no_pointers : (params : List Param) → AllByRecursion IsIntegerParam params
    → AllByRecursion (λ (p : Param). p.ty ≡ ptr → ⊥) params
no_pointers [] h = tt
no_pointers (p ∷ params) h = (
  λ e. let both : ptr ≡ int h.0.0 = sym e ∙ h.0.1 in absurd (cc),
  no_pointers params h.1,
)

module _ (l : Lowered) (low : IsLowered l) (few : HasFewBytes l) (a : Anew) (anew : IsAnewOf (early l) a) (r : Run)
    (entered : IsEntryCall l.source r) where
  abbrev g : RenewedGiven
  g = renewing l a r

  abbrev pub run : ℕ → State
  run n = iterate (renewed_step (renewing l a r)) n (first_state (edged l) r.entry r.args)

  run_is : (n : ℕ) → run n ≡ hooked_state_at (renewed_hooks g) r.entry r.args n
  run_is n = same l low few a anew r entered n

  all_types : KeepsAllTypes (edged l)
  all_types = (all_kept l low a anew r entered few).types

  all_switches : AllHaveSwitches (edged l)
  all_switches = switches l low few a anew r entered

  all_places : KeepsAllPlaceRules (renewing l a r).given
  all_places = places l low few a anew r entered

  hooked_called : (n : ℕ) → IsCalledState (edged l) (hooked_state_at (renewed_hooks g) r.entry r.args n)
  hooked_called n = subst (IsCalledState (edged l)) (run_is n) (called l low few a anew r entered n)

  hooked_values : (n : ℕ) → HasValues (edged l) (hooked_state_at (renewed_hooks g) r.entry r.args n).top.func
      (hooked_state_at (renewed_hooks g) r.entry r.args n).top.values
  hooked_values n = subst (λ (s : State). HasValues (edged l) s.top.func s.top.values) (run_is n)
      (sound l low few a anew r entered n).top.values

  pub unbegun : (n : ℕ) → IsUnbegunState (edged l) (run n)
  unbegun n = subst (IsUnbegunState (edged l)) (sym (run_is n))
      (states_unbegun (renewed_hooks g) (renewed_keeps_unbegun g) r.entry r.args (λ k. hooked_called k) n)

  pub led : (n : ℕ) → IsLedState (edged l) (counts l a r) (run n)
  led n = subst (IsLedState (edged l) (counts l a r)) (sym (run_is n))
      (states_led (renewed_hooks g) (counts l a r)
      (renewed_keeps_led g (counts l a r) (names_kept l low few a anew r entered)
      (tables_kept l low few a anew r entered)) (names_kept l low few a anew r entered) all_types r.entry r.args
      (λ k. states_reached (renewed_hooks g) all_switches (renewed_keeps g) r.entry r.args k) (λ k. hooked_called k)
      (λ k. hooked_values k) n)

  pub executed : (n : ℕ) → IsExecutedState (edged l) (own l a r) (run n)
  executed n = subst (IsExecutedState (edged l) (own l a r)) (sym (run_is n))
      (states_executed (renewed_hooks g) (own l a r) (renewed_keeps_executed g) (own_kept l low few a anew r entered)
      all_types r.entry r.args (λ k. hooked_called k) (λ k. hooked_values k) n)

  -- flagged names have addresses, and allocas still to come no values (F1)
  pub made_anew : (n : ℕ) → IsAnewState (edged l) a.flags (run n)
  made_anew n = subst (IsAnewState (edged l) a.flags) (sym (run_is n))
      (states_anew (renewed_hooks g) a.flags (renewed_keeps_anew g) (all_kept l low a anew r entered few).locals
      (λ func block at label leads.
      ((slots_kept l low a anew r entered few).each func).entry block at label leads) all_types r.entry r.args
      (λ k. hooked_called k) (λ k. hooked_values k) n)

  entry_integers : HasNoPointers (edged l) r.entry
  entry_integers = subst (λ (f : Function). AllByRecursion (λ (p : Param). p.ty ≡ ptr → ⊥) f.params)
      (sym (ap (λ (o : Option Function). unwrap_or o no_function) (edged_entry l low a anew r entered)))
      (no_pointers entered.callable.function.params entered.callable.integers)

  pub pointing : (n : ℕ) → IsPointingState (edged l) (run n)
  pointing n = subst (IsPointingState (edged l)) (sym (run_is n))
      (states_point (renewed_hooks g) all_switches (renewed_keeps g) all_types (renewed_keeps_pointing g all_types)
      r.entry r.args n entry_integers)

  -- slots have the sizes and alignments of their allocas
  pub sized : (n : ℕ) → IsSizedState (edged l) (run n)
  sized n = subst (IsSizedState (edged l)) (sym (run_is n))
      (states_sized (renewed_hooks g) (renewed_keeps_sizes g)
      (λ u. renewed_keeps_slots (IsSizedAt (edged l) u) g) r.entry
      r.args (λ k. states_reached (renewed_hooks g) all_switches (renewed_keeps g) r.entry r.args k) n)

  pub known : (n : ℕ) → IsKnown (asking l low a r) (counts l a r) (own l a r) (run n)
  known n = record {
    sound = sound l low few a anew r entered n;
    slots = slots l low few a anew r entered n;
    led = led n;
    unbegun = unbegun n;
    executed = executed n;
  }

  -- what is kept may be stored
  pub storables_known : (n : ℕ) → HasStorables (asking l low a r) (renewed_step (renewing l a r) (run n))
  storables_known n = subst (HasStorables (asking l low a r))
      (last_step (renewed_step (renewing l a r)) n (first_state (edged l) r.entry r.args))
      (storables (asking l low a r) (asked_kept l low few a anew r) (run (suc n))
      (fitting l low few a anew r entered (suc n)) (pointing (suc n)))

  -- ---- steps

  pub follow_known : (n : ℕ) → (run n).outcome ≡ Outcome.Running
      → is_coroutine (asking l low a r).b (run n).top.func ≡ true → MayFollow (asking l low a r) (run n)
  follow_known n runs coroutine =
      may_follow (asking l low a r) (counts l a r) (own l a r) (asked_kept l low few a anew r)
      (source_known l low few a anew r entered) (run n) (known n) runs coroutine (storables_known n)

  pub step_known : (n : ℕ) (t : State) → AreBuiltOf (asking l low a r).b (run n) t → (run n).outcome ≡ Outcome.Running
      → (IsNotEntering (run n).top.mode → AreFieldsApart (asking l low a r).b (run n))
      → MayStep (asking l low a r) (run n)
  step_known n t built runs apart = record {
    marked = λ plain starts must_tail ty size u name there.
        plain_marked (asking l low a r) (own l a r) (own_kept l low few a anew r entered)
        (source_marks l low few a anew r entered) (run n) t built (sound l low few a anew r entered n)
        (called l low few a anew r entered n) (slots l low few a anew r entered n) (executed n) runs plain starts
        must_tail ty size u name there;
    fields = apart;
    stored = λ b more arg below stands coroutine.
        results_stored (asking l low a r) (asked_kept l low few a anew r) (run n)
        (fitting l low few a anew r entered n) (pointing n) b more arg below stands coroutine;
  }

  pub marks_known : (n : ℕ) (t : State) (built : AreBuiltOf (asking l low a r).b (run n) t)
      → (run n).outcome ≡ Outcome.Running → is_coroutine (asking l low a r).b (run n).top.func ≡ true → (starts : Bool)
      → ((must_tail : Bool) (ty : Option Ty) (size : Arg) (u : Ty) (name : ℕ)
      → fetch (function_of (renewing l a r).given (run n)) (run n).top.block (run n).top.at
      ≡ AtInstr (marking starts must_tail ty size u name)
      → AreMarkedSlotsThere (asking l low a r) (own l a r) (run n) t built name starts)
      → MayMark (asking l low a r) (run n) t built starts
  marks_known n t built runs coroutine starts left =
      may_mark (asking l low a r) (counts l a r) (own l a r) (asked_kept l low few a anew r)
      (source_markers l low few a anew r entered) (run n) t built (known n) runs coroutine starts left
