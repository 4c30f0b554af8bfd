-- Calls and returns, where saves are written out.
use Rattle.std.proofs.Common.{◌≡◌, ℕ, zero, suc, ◌+◌, ◌<◌, false, List, [], ◌∷◌, ◌++◌, length, refl, sym, ap, ◌∙◌, subst, arith, length-append}
use Rattle.std.proofs.lemmas.List.{replicate-append-replicate}
use Rattle.std.specs.Prelude.{ℤ, None, Ok, Err, Option, Result, map, replicate, unwrap_or}
use Rattle.rule_laws.specs.run_memory.declared.pointer.Value.{Value}
use Rattle.rule_laws.specs.ir_base.declared.cause.Cause.{Cause}
use Rattle.rule_laws.specs.ir_base.declared.outcome.Outcome.{Outcome}
use Rattle.rule_laws.specs.run_source.Source.{called, enter, given, mode_of, pop, return, returned}
use Rattle.rule_laws.specs.run_source.declared.state.Activation.{Activation}
use Rattle.rule_laws.specs.run_source.declared.state.Mode.{Mode}
use Rattle.rule_laws.specs.run_source.declared.state.State.{State}
use Rattle.pass_early.specs.Early.{save_name, save_names}
use Rattle.ir_model.specs.Names.{function_at}
use Rattle.ir_model.specs.declared.module.Frame.{Frame}
use Rattle.ir_model.specs.declared.module.Function.{Function}
use Rattle.ir_model.specs.declared.module.Module.{Module}
use Rattle.ir_model.specs.declared.module.Param.{Param}
use Rattle.rule_laws.specs.run_step.Results.{and_then}
use Rattle.rule_laws.specs.run_step.Step.{entry_values, outcome_of, with_params}
use Rattle.rule_laws.specs.run_step.Values.{Env}
use Rattle.run_states.proofs.expanded.Environments.{grown, params_grown, result_grown}
use Rattle.pass_early_proof.proofs.early.saves.Parts.{function_saved}
use Rattle.pass_early_proof.specs.early.saves.SavesWritten.{save_count, saved_function, saves_written}
use Rattle.rule_laws.specs.run_laws.changed.Changed.{Each}
use Rattle.pass_early_proof.proofs.early.save_states.Acts.{front_next}
use Rattle.pass_early_proof.specs.early.save_states.SavedState.{IsNamedBelow, StandsAlone, saved_activation, saved_result, saved_state}
use Rattle.rule_laws.specs.ir_laws.facts.sound_states.Named.{HasNamedParams}
use Rattle.run_states.proofs.branches.Calls.{length_none}

-- ---- the values at the entry

pub names_length : (k : ℕ) → length (save_names k) ≡ k
names_length zero = refl
names_length (suc k) =
    let again = names_length k in
    let len = length-append (save_names k) (save_name k ∷ []) in
    omega (arith, again, len)

entry_saved : (f : Function) (args : List Value) → HasNamedParams f → entry_values (saved_function f) args ≡ grown (save_count f) (entry_values f args)
entry_saved f args named =
    ap (λ (e : Env). with_params e f.params args) blank
    ∙ params_grown (save_count f) (replicate (length f.names) None) f.params args (subst (λ (n : ℕ). Each (λ (p : Param). p.name < n) f.params) (sym (length_none (length f.names))) named)
  where
    count : length (f.names ++ save_names (save_count f)) ≡ length f.names + save_count f
    count = length-append f.names (save_names (save_count f)) ∙ ap (λ (n : ℕ). length f.names + n) (names_length (save_count f))

    blank : replicate (length (f.names ++ save_names (save_count f))) None ≡ grown (save_count f) (replicate (length f.names) None)
    blank = ap (λ (n : ℕ). replicate n None) count ∙ sym (replicate-append-replicate (length f.names) (save_count f) None)

module _ (m : Module) where
  pub called_saved : (func : ℕ) (args : List Value) (result : Option ℕ) (mode : Mode) → HasNamedParams (function_at m func) → called (saves_written m) func args result mode ≡ saved_activation m (called m func args result mode)
  called_saved func args result mode named =
      ap (λ (e : Env). record { func = func; block = 0; at = 0; values = e; slots = []; result = result; mode = mode; instance = None; has_left = false })
      (ap (λ (f : Function). entry_values f args) (function_saved m func) ∙ entry_saved (function_at m func) args named)

  -- a call enters its function
  pub enter_saved : (sizes : List Frame) (answers : List ℤ) (s : State) (func : ℕ) (args : List Value) (result : Option ℕ) → StandsAlone m s → HasNamedParams (function_at m func) → enter (given (saves_written m) sizes answers) (saved_state m s) func args result ≡ saved_state m (enter (given m sizes answers) s func args result)
  enter_saved sizes answers s func args result lone named =
      ap (λ (f : Function). record (saved_state m s) { top = called (saves_written m) func args result (mode_of f); below = record (saved_activation m s.top) { at = (saved_activation m s.top).at + 1 } ∷ map (saved_activation m) s.below }) (function_saved m func)
      ∙ ap (λ (a : Activation). record (saved_state m s) { top = a; below = record (saved_activation m s.top) { at = (saved_activation m s.top).at + 1 } ∷ map (saved_activation m) s.below }) (called_saved func args result (mode_of (function_at m func)) named)
      ∙ ap (λ (k : ℕ). record (saved_state m s) { top = saved_activation m (called m func args result (mode_of (function_at m func))); below = record (saved_activation m s.top) { at = k } ∷ map (saved_activation m) s.below }) (front_next (function_at m s.top.func) s.top.block s.top.at lone)

  pop_saved : (s : State) (v : Option Value) (below : List Activation) → IsNamedBelow s.top.result below → pop (saved_state m s) v (map (saved_activation m) below) ≡ saved_result m (pop s v below)
  pop_saved s v [] h = on (outcome_of v)
    where
      on : (r : Result Outcome Cause) → and_then r (λ outcome. Ok (record (saved_state m s) { outcome = outcome })) ≡ saved_result m (and_then r (λ outcome. Ok (record s { outcome = outcome })))
      on (Err cause) = refl
      on (Ok outcome) = refl
  pop_saved s v (a ∷ below) h =
      ap (λ (e : Env). Ok (record (saved_state m s) { top = record (saved_activation m a) { values = e }; below = map (saved_activation m) below }))
      (result_grown (save_count (function_at m a.func)) a.values s.top.result (unwrap_or v Value.Poison) h)

  -- a return goes back to the same activation
  pub return_saved : (s : State) (v : Option Value) → IsNamedBelow s.top.result s.below → return (saved_state m s) v ≡ saved_result m (return s v)
  return_saved s v h = pop_saved (returned s) v s.below h
