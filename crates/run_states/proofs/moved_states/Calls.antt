-- Calls and returns, where functions have blocks on some of their edges.
use Rattle.std.proofs.Common.{◌≡◌, ℕ, ◌<◌, Bool, true, false, List, [], ◌∷◌, length, refl, sym, ap, ◌∙◌, subst}
use Rattle.std.proofs.lemmas.List.{replicate-append-replicate}
use Rattle.std.specs.Prelude.{ℤ, Some, None, Ok, Err, Option, Result, map, option_map, replicate, unwrap_or, if◌then◌else◌}
use Rattle.ir_laws.specs.run_memory.declared.pointer.Value.{Value}
use Rattle.ir_laws.specs.ir_base.declared.cause.Cause.{Cause}
use Rattle.ir_laws.specs.ir_base.declared.outcome.Outcome.{Outcome}
use Rattle.ir_laws.specs.run_source.Source.{called, enter, pop, push, return, returned}
use Rattle.ir_laws.specs.run_source.declared.state.Activation.{Activation}
use Rattle.ir_laws.specs.run_source.declared.state.Mode.{Mode}
use Rattle.ir_laws.specs.run_source.declared.state.State.{State}
use Rattle.run_states.proofs.expanded.Environments.{grown, params_grown, result_grown}
use Rattle.ir_laws.specs.run_laws.changed.Changed.{Each}
use Rattle.ir_laws.specs.facts.sound_states.Named.{AreLocalsNamed, HasNamedParams}
use Rattle.frame_layout.specs.declared.layout.Layout.{Layout}
use Rattle.run_states.proofs.branches.Calls.{length_none}
use Rattle.run_states.specs.branches.MovedState.{IsNamedBelow}
use Rattle.run_framed.specs.Framed.{FramedGiven, enter_given, framed_given, given_call, given_ramp, last_value}
use Rattle.ir_laws.specs.ir_model.Names.{function_at}
use Rattle.ir_laws.specs.ir_model.declared.instr.Instr.{Instr}
use Rattle.ir_laws.specs.ir_model.declared.module.Function.{Function}
use Rattle.ir_laws.specs.ir_model.declared.module.Module.{Module}
use Rattle.ir_laws.specs.ir_model.declared.module.Param.{Param}
use Rattle.ir_laws.specs.ir_model.declared.operand.Callee.{Callee}
use Rattle.ir_laws.specs.run_step.Results.{and_then}
use Rattle.ir_laws.specs.run_step.Step.{AtInstr, Fetched, entry_values, outcome_of, with_params}
use Rattle.ir_laws.specs.run_step.Values.{Env, arg_values}
use Rattle.run_states.proofs.moved_states.Parts.{args_moved, function_moved, given_moved}
use Rattle.run_states.specs.moved_states.MovedState.{moved_activation, moved_mode, moved_module, moved_result, moved_state}
use Rattle.run_states.specs.moved_states.Moving.{KeepsKinds, Moves, Moving}

module _ (mv : Moving) (kinds : KeepsKinds mv) (m : Module) where
  -- ---- the values at the entry

  entry_moved : (f : Function) (args : List Value) → HasNamedParams f → entry_values (mv.to f) args ≡ grown (mv.more f) (entry_values f args)
  entry_moved f args named =
      (λ i. with_params (replicate (kinds.names f i) None) (kinds.params f i) args)
      ∙ ap (λ (e : Env). with_params e f.params args) (sym (replicate-append-replicate (length f.names) (mv.more f) None))
      ∙ params_grown (mv.more f) (replicate (length f.names) None) f.params args (subst (λ (n : ℕ). Each (λ (p : Param). p.name < n) f.params) (sym (length_none (length f.names))) named)

  pub called_moved : (func : ℕ) (args : List Value) (result : Option ℕ) (mode : Mode) → moved_mode mv (function_at m func) mode ≡ mode → Moves mv (function_at m func) → HasNamedParams (function_at m func) → called (moved_module mv m) func args result mode ≡ moved_activation mv m (called m func args result mode)
  called_moved func args result mode same moves named =
      let values = ap (λ (f : Function). entry_values f args) (function_moved mv kinds m func) ∙ entry_moved (function_at m func) args named in
      let block = sym moves.entry in
      let kept = sym same in
      λ i. record { func = func; block = block i; at = 0; values = values i; slots = []; result = result; mode = kept i; instance = None; has_left = false }

  module _ (names : AreLocalsNamed m) (moves : (func : ℕ) → Moves mv (function_at m func)) where
    pushed_moved : (s : State) (func : ℕ) (args : List Value) (result : Option ℕ) (mode : Mode) → moved_mode mv (function_at m func) mode ≡ mode → push (moved_state mv m s) (called (moved_module mv m) func args result mode) ≡ moved_state mv m (push s (called m func args result mode))
    pushed_moved s func args result mode same = ap (push (moved_state mv m s)) (called_moved func args result mode same (moves func) (names func).params)

    -- a call enters its function
    pub enter_moved : (layouts : List Layout) (answers : List ℤ) (s : State) (func : ℕ) (args : List Value) (result : Option ℕ) → enter (framed_given (moved_module mv m) layouts answers).given (moved_state mv m s) func args result ≡ moved_state mv m (enter (framed_given m layouts answers).given s func args result)
    enter_moved layouts answers s func args result =
        ap (λ (b : Bool). push (moved_state mv m s) (called (moved_module mv m) func args result (if b then Mode.Ramp else Mode.Plain))) (ap (λ (f : Function). f.coroutine) (function_moved mv kinds m func) ∙ kinds.coroutine (function_at m func))
        ∙ on (function_at m func).coroutine
      where
        on : (b : Bool) → push (moved_state mv m s) (called (moved_module mv m) func args result (if b then Mode.Ramp else Mode.Plain)) ≡ moved_state mv m (push s (called m func args result (if b then Mode.Ramp else Mode.Plain)))
        on true = pushed_moved s func args result Mode.Ramp refl
        on false = pushed_moved s func args result Mode.Plain refl

    -- so does one that is given the address of its frame
    module _ (layouts : List Layout) (answers : List ℤ) (s : State) where
      abbrev g : FramedGiven
      g = framed_given m layouts answers

      abbrev k : FramedGiven
      k = framed_given (moved_module mv m) layouts answers

      enter_given_moved : (result : Option ℕ) (vs : List Value) (o : Option ℕ) → enter_given k (moved_state mv m s) result vs o ≡ option_map (moved_result mv m) (enter_given g s result vs o)
      enter_given_moved result vs None = refl
      enter_given_moved result vs (Some func) = ap (λ (t : State). Some (Ok t)) (pushed_moved s func vs result (Mode.GivenRamp (last_value vs)) refl)

      pub given_call_moved : (here : Fetched) → given_call k (moved_state mv m s) here ≡ option_map (moved_result mv m) (given_call g s here)
      given_call_moved (AtInstr (Instr.Call result must_tail ty (Callee.Named n) args)) =
          (λ i. enter_given k (moved_state mv m s) result (args_moved mv kinds m (mv.more (function_at m s.top.func)) s.top.values args i) (given_moved mv kinds m n i))
          ∙ enter_given_moved result (arg_values m s.top.values args) (given_ramp m n)
      given_call_moved _ = refl

-- ---- returns

module _ (mv : Moving) (m : Module) where
  pop_moved : (s : State) (v : Option Value) (below : List Activation) → IsNamedBelow s.top.result below → pop (moved_state mv m s) v (map (moved_activation mv m) below) ≡ moved_result mv m (pop s v below)
  pop_moved s v [] h = on (outcome_of v)
    where
      on : (r : Result Outcome Cause) → and_then r (λ outcome. Ok (record (moved_state mv m s) { outcome = outcome })) ≡ moved_result mv m (and_then r (λ outcome. Ok (record s { outcome = outcome })))
      on (Err cause) = refl
      on (Ok outcome) = refl
  pop_moved s v (a ∷ below) h =
      ap (λ (e : Env). Ok (record (moved_state mv m s) { top = record (moved_activation mv m a) { values = e }; below = map (moved_activation mv m) below }))
      (result_grown (mv.more (function_at m a.func)) a.values s.top.result (unwrap_or v Value.Poison) h)

  -- a return goes back to the same activation
  pub return_moved : (s : State) (v : Option Value) → IsNamedBelow s.top.result s.below → return (moved_state mv m s) v ≡ moved_result mv m (return s v)
  return_moved s v h = pop_moved (returned s) v s.below h
