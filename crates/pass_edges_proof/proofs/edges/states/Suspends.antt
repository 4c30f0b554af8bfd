-- Saves, where edges have blocks.
use Rattle.std.proofs.Common.{◌≡◌, ℕ, Bool, true, false, length, refl, sym, ap, ◌∙◌}
use Rattle.std.proofs.lemmas.List.{length-map}
use Rattle.std.specs.Prelude.{Some, None, Option, map, not}
use Rattle.pass_early_proof.specs.ir_base.declared.cause.Cause.{Cause}
use Rattle.pass_early_proof.specs.run_source.Source.{save_for}
use Rattle.pass_early_proof.specs.run_source.State.{own_instance, with_instance, with_left}
use Rattle.pass_early_proof.specs.run_source.declared.state.Instance.{Instance}
use Rattle.pass_early_proof.specs.run_source.declared.state.State.{State}
use Rattle.pass_early_proof.specs.run_source.declared.state.Status.{Status}
use Rattle.ir_model.specs.Names.{function_at}
use Rattle.ir_model.specs.declared.module.Function.{Function}
use Rattle.ir_model.specs.declared.module.Module.{Module}
use Rattle.pass_early_proof.specs.ir_paths.declared.point.Point.{Point}
use Rattle.pass_early_proof.specs.run_step.Results.{and_then, found, ok_if}
use Rattle.pass_edges_proof.specs.edges.states.MovedState.{placed, moved_activation, moved_instance, moved_result, moved_state, moved_values}
use Rattle.pass_edges_proof.proofs.edges.states.States.{own_moved, with_instance_moved, with_number}
use Rattle.pass_early_proof.specs.run_states.branches.MovedState.{IsOwnedBy}

module _ (m : Module) (s : State) (save suspend : Point) where
  -- the instance with a save by a function's points, at a depth
  abbrev kept_by : Function → ℕ → Instance → Instance
  kept_by f depth x =
      record (moved_instance m x) {
        status = Status.Suspended (placed f suspend) (moved_values f s.top.values);
        last_save = Some (record { depth = depth; save = placed f save });
      }

  abbrev kept : Instance → Instance
  kept x = record x { status = Status.Suspended suspend s.top.values; last_save = Some (record { depth = length s.below; save = save }) }

  -- a save keeps the same, moved
  pub save_for_moved : IsOwnedBy s (own_instance s) → save_for (moved_state m s) (placed (function_at m s.top.func) save) (placed (function_at m s.top.func) suspend) ≡ moved_result m (save_for s save suspend)
  save_for_moved own =
      ap (λ (o : Option (ℕ × Instance)). and_then (found Cause.State o) (λ (y : ℕ × Instance). ok_if (not y.1.freed) Cause.State (with_left (with_instance (moved_state m s) y.0 (record y.1 { status = Status.Suspended (placed (function_at m s.top.func) suspend) (moved_values (function_at m s.top.func) s.top.values); last_save = Some (record { depth = length (map (moved_activation m) s.below); save = placed (function_at m s.top.func) save }) })) true))) (own_moved m s)
      ∙ on (own_instance s) own
    where
      tested : (b : Bool) (x : State) → ok_if b Cause.State (moved_state m x) ≡ moved_result m (ok_if b Cause.State x)
      tested true x = refl
      tested false x = refl

      on : (o : Option (ℕ × Instance)) → IsOwnedBy s o → and_then (found Cause.State (with_number m o)) (λ (y : ℕ × Instance). ok_if (not y.1.freed) Cause.State (with_left (with_instance (moved_state m s) y.0 (record y.1 { status = Status.Suspended (placed (function_at m s.top.func) suspend) (moved_values (function_at m s.top.func) s.top.values); last_save = Some (record { depth = length (map (moved_activation m) s.below); save = placed (function_at m s.top.func) save }) })) true)) ≡ moved_result m (and_then (found Cause.State o) (λ (y : ℕ × Instance). ok_if (not y.1.freed) Cause.State (with_left (with_instance s y.0 (kept y.1)) true)))
      on None h = refl
      on (Some y) h =
          ap (λ (n : ℕ). ok_if (not y.1.freed) Cause.State (with_left (with_instance (moved_state m s) y.0 (kept_by (function_at m s.top.func) n y.1)) true)) (length-map s.below (moved_activation m))
          ∙ ap (λ (f : Function). ok_if (not y.1.freed) Cause.State (with_left (with_instance (moved_state m s) y.0 (kept_by f (length s.below) y.1)) true)) (sym (ap (function_at m) h))
          ∙ ap (λ (t : State). ok_if (not y.1.freed) Cause.State (with_left t true)) (with_instance_moved m s y.0 (kept y.1))
          ∙ tested (not y.1.freed) (with_left (with_instance s y.0 (kept y.1)) true)
