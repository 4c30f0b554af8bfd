-- In each state of the framed run of an accepted source the bytes of numbers are bytes.
use Rattle.std.proofs.Common.{◌≡◌, ℕ, [], map, Option, Some, None, sym, ap, ◌∙◌, subst}
use Rattle.std.specs.Prelude.{unwrap_or}
use Rattle.compiler_theorem.proofs.kinds.FramedSlots.{framed_switches}
use Rattle.compiler_theorem.proofs.parts.Widths.{own_wide}
use Rattle.compiler_theorem.proofs.theorem.Built.{sources_built}
use Rattle.compiler_theorem.proofs.theorem.Renewing.{early_entry}
use Rattle.compiler_theorem.proofs.theorem.Stepping.{gives_no_frames}
use Rattle.compiler_theorem.proofs.woken.FramedRuns.{framed_rules}
use Rattle.compiler_theorem.specs.theorem.Anew.{Anew, IsAnewOf}
use Rattle.compiler_theorem.specs.theorem.Built.{building}
use Rattle.compiler_theorem.specs.theorem.Entries.{IsEntryCall, Run}
use Rattle.compiler_theorem.specs.theorem.Lowered.{IsLowered, Lowered, early}
use Rattle.compiler.specs.ir_model.Names.{function_at, no_function}
use Rattle.compiler.specs.ir_model.declared.module.Function.{Function}
use Rattle.compiler.specs.rule_laws.rules.function_rules.Kept.{AllKeepFunctionRules, KeepsFunctionRules}
use Rattle.run_accepted.proofs.Modules.{all_types}
use Rattle.compiler.specs.run_framed.Framed.{FramedGiven, framed_state_at, framed_step}
use Rattle.pass_frames_meaning.proofs.run_hooks.Keeping.{framed_keeps}
use Rattle.pass_frames_meaning.proofs.run_hooks.Steps.{framed_steps, same_runs}
use Rattle.pass_frames_meaning.specs.run_hooks.Hooks.{step_of}
use Rattle.pass_frames_meaning.specs.run_hooks.Meanings.{framed_hooks}
use Rattle.compiler.specs.run_memory.declared.pointer.Value.{Value}
use Rattle.compiler.specs.run_source.Source.{first_state}
use Rattle.pass_frames_meaning.proofs.run_types.Meanings.{framed_keeps_fitting}
use Rattle.pass_frames_meaning.proofs.run_types.Runs.{states_fit}
use Rattle.pass_frames_meaning.specs.run_types.Fitting.{FitParams, HaveBytes}
use Rattle.pass_frames_meaning.specs.run_types.Rules.{KeepsAllTypes, KeepsGivenTypes}
use Rattle.pass_frames_meaning.specs.run_types.States.{AreArguments, IsFittingState}

module _ (l : Lowered) (low : IsLowered l) where
  rules : AllKeepFunctionRules l.framed
  rules k f e =
      let same : function_at l.framed k ≡ f = ap (λ (o : Option Function). unwrap_or o no_function) e in
      subst (KeepsFunctionRules l.framed k) same (framed_rules l low k (e ∙ ap Some (sym same)))

  types : KeepsAllTypes l.framed
  types = all_types l.framed rules (own_wide l low)

  -- no call gives a frame, so none is of other types
  given_types : KeepsGivenTypes l.framed
  given_types = record {
    calls = λ func block at result must_tail ty n args ramp there given.
        absurd (other ramp (sym (gives_no_frames l low func block at result must_tail ty n args there) ∙ given));
  }
    where
      other : (ramp : ℕ) → None ≡ Some ramp → ⊥
      other ramp e = absurd (cc)

  module _ (a : Anew) (anew : IsAnewOf (early l) a) (r : Run) (call : IsEntryCall l.source r) where
    abbrev h : FramedGiven
    h = (building l low.is_framed r.answers).given

    -- the entry is the source's
    entry_is : function_at l.framed r.entry ≡ function_at l.source r.entry
    entry_is =
        let was : function_at (early l) r.entry ≡ call.callable.function =
        ap (λ (o : Option Function). unwrap_or o no_function) (early_entry l low a anew r call) in
        (sources_built l low []).others r.entry (ap (λ (f : Function). f.coroutine) was ∙ call.callable.plain) ∙ was
        ∙ sym (ap (λ (o : Option Function). unwrap_or o no_function) call.callable.there)

    words : AreArguments l.framed r.entry r.args
    words = subst (λ (f : Function). FitParams f.params (map Value.Int r.args)) (sym entry_is) call.fits

    fits : (n : ℕ) → IsFittingState l.framed (framed_state_at h r.entry r.args n)
    fits n = subst (IsFittingState l.framed)
        (sym (same_runs (framed_step h) (step_of (framed_hooks h)) (framed_steps h) n
        (first_state l.framed r.entry r.args)))
        (states_fit (framed_hooks h) (framed_switches l low) (framed_keeps h) types
        (framed_keeps_fitting h types given_types) r.entry r.args n words)

    pub framed_bytes : (n : ℕ)
        → HaveBytes (framed_state_at (building l low.is_framed r.answers).given r.entry r.args n).world.memory
    framed_bytes n = (fits n).memory
