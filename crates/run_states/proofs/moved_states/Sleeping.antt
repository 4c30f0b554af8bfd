-- Saves and suspends, and the suspended instances that are found, where functions have blocks on some of their edges.
use Rattle.std.proofs.Common.{◌≡◌, ℕ, ◌+◌, Bool, true, false, List, length, refl, sym, ap, ◌∙◌}
use Rattle.std.proofs.lemmas.List.{length-map}
use Rattle.std.specs.Prelude.{ℤ, negsuc, Some, None, Ok, Err, Option, Result, map, not, option_map}
use Rattle.ir_laws.specs.run_memory.declared.pointer.Value.{Value}
use Rattle.ir_laws.specs.ir_base.declared.cause.Cause.{Cause}
use Rattle.ir_laws.specs.run_source.Source.{Sleeper, done_at, save, save_for, sleeper_at, sleeper_of, suspend}
use Rattle.ir_laws.specs.run_source.State.{gives, instance_at, next, own_instance, point_of, with_instance, with_left}
use Rattle.ir_laws.specs.run_source.declared.state.Instance.{Instance}
use Rattle.ir_laws.specs.run_source.declared.state.State.{State}
use Rattle.ir_laws.specs.run_source.declared.state.Status.{Status}
use Rattle.run_states.proofs.expanded.Environments.{result_grown}
use Rattle.ir_laws.specs.facts.expanded.Tokens.{IsNamedResult}
use Rattle.frame_layout.specs.declared.layout.Layout.{Layout}
use Rattle.run_states.specs.branches.MovedState.{IsOwnedBy}
use Rattle.run_framed.specs.Framed.{FramedGiven, framed_given}
use Rattle.ir_laws.specs.ir_model.Names.{function_at}
use Rattle.ir_laws.specs.ir_model.declared.module.Function.{Function}
use Rattle.ir_laws.specs.ir_model.declared.module.Module.{Module}
use Rattle.ir_laws.specs.ir_model.declared.operand.Operand.{Operand}
use Rattle.ir_laws.specs.ir_paths.Windows.{suspend_of}
use Rattle.ir_laws.specs.ir_paths.declared.point.Point.{Point}
use Rattle.ir_laws.specs.run_step.Results.{and_then, found, ok_if}
use Rattle.ir_laws.specs.run_step.Values.{Env, integer, truth_value}
use Rattle.ir_laws.specs.run_source_tables.Given.{has_final, is_final}
use Rattle.run_states.proofs.moved_states.Parts.{function_moved}
use Rattle.run_states.proofs.moved_states.States.{found_moved, own_moved, with_instance_moved, with_number}
use Rattle.run_states.specs.moved_states.MovedState.{moved_activation, moved_instance, moved_module, moved_result, moved_state, moved_status, moved_values}
use Rattle.run_states.specs.moved_states.Moving.{KeepsKinds, Moves, Moving, moved_point}

-- ---- results

pub gives_moved : (mv : Moving) (m : Module) (s : State) (result : Option ℕ) (v : Value) → IsNamedResult (length s.top.values) result → gives (moved_state mv m s) result v ≡ moved_state mv m (gives s result v)
gives_moved mv m s result v named =
    ap (λ (e : Env). record (moved_state mv m s) { top = record (moved_activation mv m s.top) { at = s.top.at + 1; values = e } }) (result_grown (mv.more (function_at m s.top.func)) s.top.values result v named)

-- ---- saves

module _ (mv : Moving) (m : Module) (s : State) (save suspend : Point) where
  -- the instance with a save by a function's points, at a depth
  abbrev kept_by : Function → ℕ → Instance → Instance
  kept_by f depth x =
      record (moved_instance mv m x) {
        status = Status.Suspended (moved_point mv f suspend) (moved_values mv f s.top.values);
        last_save = Some (record { depth = depth; save = moved_point mv f save });
      }

  abbrev kept : Instance → Instance
  kept x = record x { status = Status.Suspended suspend s.top.values; last_save = Some (record { depth = length s.below; save = save }) }

  -- a save keeps the same, moved
  pub save_for_moved : IsOwnedBy s (own_instance s) → save_for (moved_state mv m s) (moved_point mv (function_at m s.top.func) save) (moved_point mv (function_at m s.top.func) suspend) ≡ moved_result mv m (save_for s save suspend)
  save_for_moved own =
      ap (λ (o : Option (ℕ × Instance)). and_then (found Cause.State o) (λ (y : ℕ × Instance). ok_if (not y.1.freed) Cause.State (with_left (with_instance (moved_state mv m s) y.0 (record y.1 { status = Status.Suspended (moved_point mv (function_at m s.top.func) suspend) (moved_values mv (function_at m s.top.func) s.top.values); last_save = Some (record { depth = length (map (moved_activation mv m) s.below); save = moved_point mv (function_at m s.top.func) save }) })) true))) (own_moved mv m s)
      ∙ on (own_instance s) own
    where
      tested : (b : Bool) (x : State) → ok_if b Cause.State (moved_state mv m x) ≡ moved_result mv m (ok_if b Cause.State x)
      tested true x = refl
      tested false x = refl

      on : (o : Option (ℕ × Instance)) → IsOwnedBy s o → and_then (found Cause.State (with_number mv m o)) (λ (y : ℕ × Instance). ok_if (not y.1.freed) Cause.State (with_left (with_instance (moved_state mv m s) y.0 (record y.1 { status = Status.Suspended (moved_point mv (function_at m s.top.func) suspend) (moved_values mv (function_at m s.top.func) s.top.values); last_save = Some (record { depth = length (map (moved_activation mv m) s.below); save = moved_point mv (function_at m s.top.func) save }) })) true)) ≡ moved_result mv m (and_then (found Cause.State o) (λ (y : ℕ × Instance). ok_if (not y.1.freed) Cause.State (with_left (with_instance s y.0 (kept y.1)) true)))
      on None h = refl
      on (Some y) h =
          ap (λ (n : ℕ). ok_if (not y.1.freed) Cause.State (with_left (with_instance (moved_state mv m s) y.0 (kept_by (function_at m s.top.func) n y.1)) true)) (length-map s.below (moved_activation mv m))
          ∙ ap (λ (f : Function). ok_if (not y.1.freed) Cause.State (with_left (with_instance (moved_state mv m s) y.0 (kept_by f (length s.below) y.1)) true)) (sym (ap (function_at m) h))
          ∙ ap (λ (t : State). ok_if (not y.1.freed) Cause.State (with_left t true)) (with_instance_moved mv m s y.0 (kept y.1))
          ∙ tested (not y.1.freed) (with_left (with_instance s y.0 (kept y.1)) true)

  -- what goes on behind a save, in both
  behind_save : (F G : State → State) → ((i : ℕ) (x : Instance) → F (moved_state mv m (with_left (with_instance s i x) true)) ≡ moved_state mv m (G (with_left (with_instance s i x) true))) → and_then (moved_result mv m (save_for s save suspend)) (λ (t : State). Ok (F t)) ≡ moved_result mv m (and_then (save_for s save suspend) (λ (t : State). Ok (G t)))
  behind_save F G h = on (own_instance s)
    where
      test : (b : Bool) (i : ℕ) (x : Instance) → and_then (moved_result mv m (ok_if b Cause.State (with_left (with_instance s i (kept x)) true))) (λ (t : State). Ok (F t)) ≡ moved_result mv m (and_then (ok_if b Cause.State (with_left (with_instance s i (kept x)) true)) (λ (t : State). Ok (G t)))
      test true i x = ap Ok (h i (kept x))
      test false i x = refl

      on : (o : Option (ℕ × Instance)) → and_then (moved_result mv m (and_then (found Cause.State o) (λ (y : ℕ × Instance). ok_if (not y.1.freed) Cause.State (with_left (with_instance s y.0 (kept y.1)) true)))) (λ (t : State). Ok (F t)) ≡ moved_result mv m (and_then (and_then (found Cause.State o) (λ (y : ℕ × Instance). ok_if (not y.1.freed) Cause.State (with_left (with_instance s y.0 (kept y.1)) true))) (λ (t : State). Ok (G t)))
      on None = refl
      on (Some y) = test (not y.1.freed) y.0 y.1

module _ (mv : Moving) (kinds : KeepsKinds mv) (m : Module) (layouts : List Layout) (answers : List ℤ) where
  abbrev g : FramedGiven
  g = framed_given m layouts answers

  abbrev k : FramedGiven
  k = framed_given (moved_module mv m) layouts answers

  module _ (s : State) (own : IsOwnedBy s (own_instance s)) where
    abbrev v : Value
    v = integer 8 (negsuc 0)

    pub suspend_moved : (result : Option ℕ) → IsNamedResult (length s.top.values) result → (x : Operand) → suspend (moved_state mv m s) result x ≡ moved_result mv m (suspend s result x)
    suspend_moved result named Operand.None =
        ap (λ (r : Result State Cause). and_then r (λ (t : State). Ok (gives t result v))) (save_for_moved mv m s (point_of s) (point_of s) own)
        ∙ behind_save mv m s (point_of s) (point_of s) (λ t. gives t result v) (λ t. gives t result v) (λ i x. gives_moved mv m (with_left (with_instance s i x) true) result v named)
    suspend_moved result named (Operand.Local n) = ap Ok (gives_moved mv m s result v named)
    suspend_moved result named (Operand.Global n) = ap Ok (gives_moved mv m s result v named)
    suspend_moved result named (Operand.Number z) = ap Ok (gives_moved mv m s result v named)
    suspend_moved result named Operand.True = ap Ok (gives_moved mv m s result v named)
    suspend_moved result named Operand.False = ap Ok (gives_moved mv m s result v named)
    suspend_moved result named Operand.Null = ap Ok (gives_moved mv m s result v named)
    suspend_moved result named Operand.Poison = ap Ok (gives_moved mv m s result v named)

    pub save_moved : Moves mv (function_at m s.top.func) → save k.given (moved_state mv m s) ≡ moved_result mv m (save g.given s)
    save_moved moves =
        ap (λ (f : Function). saved (suspend_of f (moved_point mv (function_at m s.top.func) (point_of s)))) (function_moved mv kinds m s.top.func)
        ∙ ap saved (moves.suspends (point_of s))
        ∙ on (suspend_of (function_at m s.top.func) (point_of s))
      where
        saved : Option Point → Result State Cause
        saved o = and_then (found Cause.State o) (λ (p : Point). and_then (save_for (moved_state mv m s) (moved_point mv (function_at m s.top.func) (point_of s)) p) (λ (t : State). Ok (next t)))

        on : (o : Option Point) → saved (option_map (moved_point mv (function_at m s.top.func)) o) ≡ moved_result mv m (and_then (found Cause.State o) (λ (p : Point). and_then (save_for s (point_of s) p) (λ (t : State). Ok (next t))))
        on None = refl
        on (Some p) =
            ap (λ (r : Result State Cause). and_then r (λ (t : State). Ok (next t))) (save_for_moved mv m s (point_of s) p own)
            ∙ behind_save mv m s (point_of s) p next next (λ i x. refl)

  -- ---- suspended instances

  -- a sleeping instance, moved
  abbrev pub moved_sleeper : Sleeper → Sleeper
  moved_sleeper y = record {
    number = y.number;
    instance = moved_instance mv m y.instance;
    suspend = moved_point mv (function_at m y.instance.coroutine) y.suspend;
    values = moved_values mv (function_at m y.instance.coroutine) y.values;
  }

  abbrev pub sleeping : Result Sleeper Cause → Result Sleeper Cause
  sleeping (Err cause) = Err cause
  sleeping (Ok y) = Ok (moved_sleeper y)

  pub sleeper_moved : (s : State) (p : Value) → sleeper_at (moved_state mv m s) p ≡ sleeping (sleeper_at s p)
  sleeper_moved s p =
      ap (λ (o : Option (ℕ × Instance)). and_then (found Cause.Frame o) (λ (y : ℕ × Instance). sleeper_of y.0 y.1 y.1.status)) (found_moved mv m s.instances p) ∙ on (instance_at s.instances p)
    where
      by : (i : ℕ) (x : Instance) (status : Status) → sleeper_of i (moved_instance mv m x) (moved_status mv (function_at m x.coroutine) status) ≡ sleeping (sleeper_of i x status)
      by i x Status.Running = refl
      by i x (Status.Suspended q values) = refl
      by i x Status.Finished = refl

      on : (o : Option (ℕ × Instance)) → and_then (found Cause.Frame (with_number mv m o)) (λ (y : ℕ × Instance). sleeper_of y.0 y.1 y.1.status) ≡ sleeping (and_then (found Cause.Frame o) (λ (y : ℕ × Instance). sleeper_of y.0 y.1 y.1.status))
      on None = refl
      on (Some y) = by y.0 y.1 y.1.status

  module _ (moves : (func : ℕ) → Moves mv (function_at m func)) (s : State) (result : Option ℕ) (named : IsNamedResult (length s.top.values) result) where
    done_by : (r : Result Sleeper Cause) → and_then (sleeping r) (λ (y : Sleeper). ok_if (has_final (function_at (moved_module mv m) y.instance.coroutine)) Cause.State (gives (moved_state mv m s) result (truth_value (is_final (function_at (moved_module mv m) y.instance.coroutine) y.suspend)))) ≡ moved_result mv m (and_then r (λ (y : Sleeper). ok_if (has_final (function_at m y.instance.coroutine)) Cause.State (gives s result (truth_value (is_final (function_at m y.instance.coroutine) y.suspend)))))
    done_by (Err cause) = refl
    done_by (Ok y) =
        ap (λ (f2 : Function). ok_if (has_final f2) Cause.State (gives (moved_state mv m s) result (truth_value (is_final f2 (moved_point mv f y.suspend))))) (function_moved mv kinds m y.instance.coroutine)
        ∙ ap (λ (b : Bool). ok_if b Cause.State (gives (moved_state mv m s) result (truth_value (is_final (mv.to f) (moved_point mv f y.suspend))))) (moves y.instance.coroutine).finals
        ∙ ap (λ (b : Bool). ok_if (has_final f) Cause.State (gives (moved_state mv m s) result (truth_value b))) ((moves y.instance.coroutine).final y.suspend)
        ∙ ap (ok_if (has_final f) Cause.State) (gives_moved mv m s result (truth_value (is_final f y.suspend)) named)
        ∙ on (has_final f)
      where
        f : Function
        f = function_at m y.instance.coroutine

        on : (b : Bool) → ok_if b Cause.State (moved_state mv m (gives s result (truth_value (is_final f y.suspend)))) ≡ moved_result mv m (ok_if b Cause.State (gives s result (truth_value (is_final f y.suspend))))
        on true = refl
        on false = refl

    pub done_moved : (p : Value) → done_at k.given (moved_state mv m s) result p ≡ moved_result mv m (done_at g.given s result p)
    done_moved p =
        ap (λ (r : Result Sleeper Cause). and_then r (λ (y : Sleeper). ok_if (has_final (function_at (moved_module mv m) y.instance.coroutine)) Cause.State (gives (moved_state mv m s) result (truth_value (is_final (function_at (moved_module mv m) y.instance.coroutine) y.suspend))))) (sleeper_moved s p)
        ∙ done_by (sleeper_at s p)
