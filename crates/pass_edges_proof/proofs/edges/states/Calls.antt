-- Calls and returns, where edges have blocks.
use Rattle.std.proofs.Common.{◌≡◌, ℕ, ◌+◌, ◌<◌, Bool, false, List, [], ◌∷◌, length, refl, sym, ap, ◌∙◌, subst}
use Rattle.std.proofs.lemmas.List.{replicate-append-replicate}
use Rattle.std.specs.Prelude.{ℤ, None, Ok, Err, Option, Result, map, replicate, unwrap_or, if◌then◌else◌}
use Rattle.pass_early_proof.specs.run_memory.declared.pointer.Value.{Value}
use Rattle.pass_early_proof.specs.ir_base.declared.cause.Cause.{Cause}
use Rattle.pass_early_proof.specs.ir_base.declared.outcome.Outcome.{Outcome}
use Rattle.pass_early_proof.specs.run_source.Source.{called, enter, given, mode_of, pop, return, returned}
use Rattle.pass_early_proof.specs.run_source.declared.state.Activation.{Activation}
use Rattle.pass_early_proof.specs.run_source.declared.state.Mode.{Mode}
use Rattle.pass_early_proof.specs.run_source.declared.state.State.{State}
use Rattle.ir_model.specs.Names.{function_at}
use Rattle.ir_model.specs.declared.module.Frame.{Frame}
use Rattle.ir_model.specs.declared.module.Function.{Function}
use Rattle.ir_model.specs.declared.module.Module.{Module}
use Rattle.ir_model.specs.declared.module.Param.{Param}
use Rattle.pass_early_proof.specs.run_step.Results.{and_then}
use Rattle.pass_early_proof.specs.run_step.Step.{entry_values, outcome_of, with_params}
use Rattle.pass_early_proof.specs.run_step.Values.{Env}
use Rattle.pass_early_proof.proofs.run_states.expanded.Environments.{grown, params_grown, result_grown}
use Rattle.pass_edges_proof.proofs.edges.states.Parts.{coroutine_stays, first_place, function_moved, names_counted, params_stay}
use Rattle.pass_edges_proof.specs.edges.states.MovedState.{edge_count, edge_function, edges_split, moved_activation, moved_result, moved_state}
use Rattle.pass_early_proof.specs.run_laws.changed.Changed.{Each}
use Rattle.pass_early_proof.specs.run_states.branches.MovedState.{IsNamedBelow}
use Rattle.pass_early_proof.specs.ir_laws.facts.sound_states.Named.{HasNamedParams}
use Rattle.pass_early_proof.proofs.run_states.branches.Calls.{length_none}

entry_moved : (f : Function) (args : List Value) → HasNamedParams f → entry_values (edge_function f) args ≡ grown (edge_count f) (entry_values f args)
entry_moved f args named =
    (λ i. with_params (replicate (names_counted f i) None) (params_stay f i) args)
    ∙ ap (λ (e : Env). with_params e f.params args) (sym (replicate-append-replicate (length f.names) (edge_count f) None))
    ∙ params_grown (edge_count f) (replicate (length f.names) None) f.params args (subst (λ (n : ℕ). Each (λ (p : Param). p.name < n) f.params) (sym (length_none (length f.names))) named)

module _ (m : Module) where
  pub called_moved : (func : ℕ) (args : List Value) (result : Option ℕ) (mode : Mode) → HasNamedParams (function_at m func) → called (edges_split m) func args result mode ≡ moved_activation m (called m func args result mode)
  called_moved func args result mode named =
      let values = ap (λ (f : Function). entry_values f args) (function_moved m func) ∙ entry_moved (function_at m func) args named in
      let block = sym (first_place (function_at m func)) in
      λ i. record { func = func; block = block i; at = 0; values = values i; slots = []; result = result; mode = mode; instance = None; has_left = false }

  -- a call enters its function
  pub enter_moved : (sizes : List Frame) (answers : List ℤ) (s : State) (func : ℕ) (args : List Value) (result : Option ℕ) → HasNamedParams (function_at m func) → enter (given (edges_split m) sizes answers) (moved_state m s) func args result ≡ moved_state m (enter (given m sizes answers) s func args result)
  enter_moved sizes answers s func args result named =
      ap (λ (b : Bool). entered (called (edges_split m) func args result (if b then Mode.Ramp else Mode.Plain))) (ap (λ (f : Function). f.coroutine) (function_moved m func) ∙ coroutine_stays (function_at m func))
      ∙ ap entered (called_moved func args result (mode_of (function_at m func)) named)
    where
      entered : Activation → State
      entered a = record (moved_state m s) { top = a; below = record (moved_activation m s.top) { at = (moved_activation m s.top).at + 1 } ∷ map (moved_activation m) s.below }

  pop_moved : (s : State) (v : Option Value) (below : List Activation) → IsNamedBelow s.top.result below → pop (moved_state m s) v (map (moved_activation m) below) ≡ moved_result m (pop s v below)
  pop_moved s v [] h = on (outcome_of v)
    where
      on : (r : Result Outcome Cause) → and_then r (λ outcome. Ok (record (moved_state m s) { outcome = outcome })) ≡ moved_result m (and_then r (λ outcome. Ok (record s { outcome = outcome })))
      on (Err cause) = refl
      on (Ok outcome) = refl
  pop_moved s v (a ∷ below) h =
      ap (λ (e : Env). Ok (record (moved_state m s) { top = record (moved_activation m a) { values = e }; below = map (moved_activation m) below }))
      (result_grown (edge_count (function_at m a.func)) a.values s.top.result (unwrap_or v Value.Poison) h)

  -- a return goes back to the same activation
  pub return_moved : (s : State) (v : Option Value) → IsNamedBelow s.top.result s.below → return (moved_state m s) v ≡ moved_result m (return s v)
  return_moved s v h = pop_moved (returned s) v s.below h
