-- Saves, where saves are written out.
use Rattle.std.proofs.Common.{◌≡◌, ℕ, ◌+◌, Bool, true, false, List, length, refl, sym, ap, ◌∙◌, add-one, arith}
use Rattle.std.proofs.lemmas.List.{length-map}
use Rattle.std.specs.Prelude.{ℤ, Some, None, Ok, Option, Result, map, not, slice_get}
use Rattle.rule_laws.specs.run_memory.declared.pointer.Value.{Value}
use Rattle.rule_laws.specs.ir_base.declared.cause.Cause.{Cause}
use Rattle.rule_laws.specs.run_source.Source.{given, save, save_for}
use Rattle.rule_laws.specs.run_source.State.{gives, next, own_instance, point_of, with_instance, with_left}
use Rattle.rule_laws.specs.run_source.declared.state.Instance.{Instance}
use Rattle.rule_laws.specs.run_source.declared.state.State.{State}
use Rattle.rule_laws.specs.run_source.declared.state.Status.{Status}
use Rattle.ir_model.specs.Names.{function_at}
use Rattle.ir_model.specs.declared.instr.Instr.{Instr}
use Rattle.ir_model.specs.declared.module.Frame.{Frame}
use Rattle.ir_model.specs.declared.module.Function.{Function}
use Rattle.ir_model.specs.declared.module.Module.{Module}
use Rattle.rule_laws.specs.ir_paths.Windows.{suspend_of}
use Rattle.rule_laws.specs.ir_paths.declared.point.Point.{Point}
use Rattle.rule_laws.specs.run_step.Results.{and_then, found, ok_if}
use Rattle.rule_laws.specs.run_step.Values.{Env, with_result}
use Rattle.run_states.proofs.expanded.Environments.{result_grown}
use Rattle.pass_early_proof.proofs.early.saves.Instrs.{next_place}
use Rattle.pass_early_proof.proofs.early.saves.Parts.{function_saved}
use Rattle.pass_early_proof.proofs.early.saves.Windows.{suspend_bare}
use Rattle.pass_early_proof.specs.early.saves.SavesWritten.{is_bare, save_count, saves_written}
use Rattle.pass_early_proof.specs.early.saves.Spots.{back_of, front_of, number_of_block, own_saves}
use Rattle.rule_laws.specs.ir_laws.facts.expanded.Spots.{instrs_in}
use Rattle.rule_laws.specs.ir_laws.paths.expanded.Tokens.{HasNamedTokens}
use Rattle.rule_laws.specs.ir_laws.facts.expanded.Tokens.{IsNamedResult}
use Rattle.pass_early_proof.proofs.early.save_states.States.{own_saved, with_instance_saved, with_number}
use Rattle.pass_early_proof.specs.early.save_states.SavedState.{IsOwnedBy, saved_activation, saved_instance, saved_result, saved_state, saved_values}

module _ (m : Module) (s : State) (save suspend : Point) where
  -- the instance with a save by a function's points, at a depth
  abbrev kept_by : Function → ℕ → Instance → Instance
  kept_by f depth x =
      record (saved_instance m x) {
        status = Status.Suspended (back_of f suspend) (saved_values f s.top.values);
        last_save = Some (record { depth = depth; save = front_of f save });
      }

  abbrev kept : Instance → Instance
  kept x = record x { status = Status.Suspended suspend s.top.values; last_save = Some (record { depth = length s.below; save = save }) }

  -- a save keeps the same, moved
  pub save_for_saved : IsOwnedBy s (own_instance s) → save_for (saved_state m s) (front_of (function_at m s.top.func) save) (back_of (function_at m s.top.func) suspend) ≡ saved_result m (save_for s save suspend)
  save_for_saved own =
      ap (λ (o : Option (ℕ × Instance)). and_then (found Cause.State o) (λ (y : ℕ × Instance). ok_if (not y.1.freed) Cause.State (with_left (with_instance (saved_state m s) y.0 (record y.1 { status = Status.Suspended (back_of (function_at m s.top.func) suspend) (saved_values (function_at m s.top.func) s.top.values); last_save = Some (record { depth = length (map (saved_activation m) s.below); save = front_of (function_at m s.top.func) save }) })) true))) (own_saved m s)
      ∙ on (own_instance s) own
    where
      tested : (b : Bool) (x : State) → ok_if b Cause.State (saved_state m x) ≡ saved_result m (ok_if b Cause.State x)
      tested true x = refl
      tested false x = refl

      on : (o : Option (ℕ × Instance)) → IsOwnedBy s o → and_then (found Cause.State (with_number m o)) (λ (y : ℕ × Instance). ok_if (not y.1.freed) Cause.State (with_left (with_instance (saved_state m s) y.0 (record y.1 { status = Status.Suspended (back_of (function_at m s.top.func) suspend) (saved_values (function_at m s.top.func) s.top.values); last_save = Some (record { depth = length (map (saved_activation m) s.below); save = front_of (function_at m s.top.func) save }) })) true)) ≡ saved_result m (and_then (found Cause.State o) (λ (y : ℕ × Instance). ok_if (not y.1.freed) Cause.State (with_left (with_instance s y.0 (kept y.1)) true)))
      on None h = refl
      on (Some y) h =
          ap (λ (n : ℕ). ok_if (not y.1.freed) Cause.State (with_left (with_instance (saved_state m s) y.0 (kept_by (function_at m s.top.func) n y.1)) true)) (length-map s.below (saved_activation m))
          ∙ ap (λ (f : Function). ok_if (not y.1.freed) Cause.State (with_left (with_instance (saved_state m s) y.0 (kept_by f (length s.below) y.1)) true)) (sym (ap (function_at m) h))
          ∙ ap (λ (t : State). ok_if (not y.1.freed) Cause.State (with_left t true)) (with_instance_saved m s y.0 (kept y.1))
          ∙ tested (not y.1.freed) (with_left (with_instance s y.0 (kept y.1)) true)

-- ---- a suspend that gets a save

front_jump : (f : Function) (block at : ℕ) → own_saves f.coroutine (slice_get (instrs_in (slice_get f.blocks block)) at) ≡ 1 → ((front_of f (record { block = block; at = at })).at + 1) + 1 ≡ (front_of f (record { block = block; at = at + 1 })).at
front_jump f block at one =
    let next = next_place f.coroutine at (number_of_block f.coroutine block (length f.names) f.blocks) (instrs_in (slice_get f.blocks block)) in
    let here = ap (λ (k : ℕ). (front_of f (record { block = block; at = k })).at) (add-one at) in
    omega (arith, next, here, one)

-- the save that is written keeps in the second run what the suspend itself keeps in the first
pub written_save_saved : (m : Module) (sizes : List Frame) (answers : List ℤ) (s : State) (i : Instr) → HasNamedTokens (function_at m s.top.func) → IsOwnedBy s (own_instance s) → slice_get (instrs_in (slice_get (function_at m s.top.func).blocks s.top.block)) s.top.at ≡ Some i → is_bare (function_at m s.top.func).coroutine i ≡ true → save (given (saves_written m) sizes answers) (saved_state m s) ≡ and_then (saved_result m (save_for s (point_of s) (point_of s))) (λ (t : State). Ok (next t))
written_save_saved m sizes answers s i named own e b =
    ap (λ (o : Option Point). and_then (found Cause.State o) (λ (suspend : Point). and_then (save_for (saved_state m s) (front_of f (point_of s)) suspend) (λ (t : State). Ok (next t))))
    (ap (λ (h : Function). suspend_of h (front_of f (point_of s))) (function_saved m s.top.func) ∙ suspend_bare f named (point_of s) i e b)
    ∙ ap (λ (r : Result State Cause). and_then r (λ (t : State). Ok (next t))) (save_for_saved m s (point_of s) (point_of s) own)
  where
    f : Function
    f = function_at m s.top.func

-- the suspend behind it comes to where the first run is behind the suspend
pub gives_behind : (m : Module) (s : State) (result : Option ℕ) (v : Value) → own_saves (function_at m s.top.func).coroutine (slice_get (instrs_in (slice_get (function_at m s.top.func).blocks s.top.block)) s.top.at) ≡ 1 → IsNamedResult (length s.top.values) result → gives (next (saved_state m s)) result v ≡ saved_state m (gives s result v)
gives_behind m s result v one named =
    ap (λ (e : Env). record (saved_state m s) { top = record (saved_activation m s.top) { at = ((saved_activation m s.top).at + 1) + 1; values = e } })
    (result_grown (save_count (function_at m s.top.func)) s.top.values result v named)
    ∙ ap (λ (k : ℕ). record (saved_state m s) { top = record (saved_activation m s.top) { at = k; values = saved_values (function_at m s.top.func) (with_result s.top.values result v) } }) (front_jump (function_at m s.top.func) s.top.block s.top.at one)
