-- So do a branch and a return.
use Rattle.std.proofs.Common.{◌≡◌, ℕ, Bool, true, false, List, [], ◌∷◌, length, Option, Some, None, Result, refl, ap}
use Rattle.std.proofs.Common.{◌∙◌, subst, arith, ◌&&◌}
use Rattle.std.specs.List.{list_all}
use Rattle.std.specs.Prelude.{slice_get, ◌==◌, ◌||◌}
use Rattle.pass_renewed_proof.specs.ir_base.declared.cause.Cause.{Cause}
use Rattle.pass_renewed_proof.specs.ir_model.declared.instr.Terminator.{Terminator}
use Rattle.pass_renewed_proof.specs.ir_model.declared.module.Function.{Function}
use Rattle.pass_renewed_proof.specs.ir_model.declared.module.Module.{Module}
use Rattle.pass_renewed_proof.specs.ir_model.declared.operand.Arg.{Arg}
use Rattle.pass_renewed_proof.specs.ir_paths.Facts.{IsWindow}
use Rattle.pass_renewed_proof.specs.ir_paths.Paths.{entry_point}
use Rattle.pass_renewed_proof.specs.ir_paths.Windows.{IsInWindow, leaves}
use Rattle.pass_renewed_proof.specs.ir_paths.declared.point.Point.{Point}
use Rattle.pass_renewed_proof.specs.ir_paths.declared.point.Window.{Window}
use Rattle.pass_renewed_proof.proofs.pass_kept_proof.Rules.{suspend_is_suspend}
use Rattle.pass_renewed_proof.specs.pass_kept_proof.Needed.{BranchesTo}
use Rattle.pass_renewed_proof.specs.rule_windows.Sets.{IsAfterEnd, RunsOut}
use Rattle.run_hooks.proofs.Placing.{each_is, first_kept, window_pair}
use Rattle.run_hooks.proofs.Points.{after_path}
use Rattle.run_hooks.proofs.alive.Acts.{return_alive}
use Rattle.run_hooks.proofs.alive.Changes.{entered}
use Rattle.run_hooks.proofs.alive.Places.{own_there}
use Rattle.run_hooks.proofs.alive.Statuses.{woken_alive}
use Rattle.run_hooks.specs.Away.{point_in}
use Rattle.run_hooks.specs.alive.Alive.{IsAliveState, StaysAlive, Stays}
use Rattle.pass_renewed_proof.specs.run_memory.Memory.{own}
use Rattle.pass_renewed_proof.specs.run_memory.declared.pointer.Value.{Value}
use Rattle.pass_renewed_proof.specs.run_source.Source.{branch_leaving, enter_block, go_to, is_over, is_save, left_windows, may_leave}
use Rattle.pass_renewed_proof.specs.run_source.Source.{return, save, suspend}
use Rattle.pass_renewed_proof.specs.run_source.State.{function_of, is_finished, is_suspended, own_facts, own_instance, with_left}
use Rattle.pass_renewed_proof.specs.run_source.State.{with_status}
use Rattle.pass_renewed_proof.specs.run_source.declared.state.Instance.{Instance}
use Rattle.pass_renewed_proof.specs.run_source.declared.state.Saved.{Saved}
use Rattle.pass_renewed_proof.specs.run_source.declared.state.State.{State}
use Rattle.pass_renewed_proof.specs.run_source.declared.state.Status.{Status}
use Rattle.pass_renewed_proof.specs.run_source_tables.Given.{Given}
use Rattle.pass_renewed_proof.specs.run_step.Results.{and_then, found, ok_if}
use Rattle.pass_renewed_proof.specs.run_step.Step.{AtTerm, Fetched, fetch, label_of}
use Rattle.pass_renewed_proof.specs.run_step.Values.{Env}
use Rattle.run_hooks.proofs.alive.Like.{set_like}
use Rattle.run_hooks.proofs.alive.Now.{IsNow, own_rules, own_places, ordered, stays_here, at_point}

module _ {g : Given} {counts : ℕ → ℕ → Bool} {hand : ℕ → Point → Env → Env} {s : State}
    (start : IsNow g counts hand s) where
  abbrev m : Module
  m = g.code

  abbrev f : Function
  f = function_of g s

  abbrev p : Point
  p = point_in s.top

  abbrev here : Fetched
  here = fetch f s.top.block s.top.at

  abbrev ramp : List ℕ
  ramp = (own_facts g s).ramp_slots

  abbrev h : IsAliveState g.code counts s
  h = start.alive

  abbrev Fine : Result State Cause → Type 0
  Fine r = StaysAlive g.code counts r

  -- ---- a branch

  pub goes_fine : (t : Terminator) → here ≡ AtTerm t → (label : ℕ) → BranchesTo label here → Fine (go_to g s label)
  goes_fine t stands label branches = on (left_windows g s label) refl
    where
      from : ℕ
      from = label_of (slice_get f.blocks s.top.block)

      leaving : (w : Window) (ws : List Window) → left_windows g s label ≡ w ∷ ws → (o : Option (ℕ × Instance))
          → ((n : ℕ) (x : Instance) → o ≡ Some (n, x)
          → (s.top.instance ≡ Some n) × (slice_get s.instances n ≡ Some x))
          → Fine (and_then (found Cause.State o) (λ (n, x). ok_if (list_all (may_leave (length s.below) x) (w ∷ ws))
          Cause.State (enter_block g (with_left (with_status s n x Status.Running) false) label)))
      leaving w ws ew None is = tt
      leaving w ws ew (Some q) is =
          let r = is q.0 q.1 refl in by q.0 q.1 r.0 r.1 (list_all (may_leave (length s.below) q.1) (w ∷ ws)) refl
        where
          kept : (k : ℕ) × (slice_get (own_facts g s).windows k ≡ Some w) × (leaves p (entry_point f label) w ≡ true)
          kept = first_kept (leaves p (entry_point f label)) (own_facts g s).windows w ws ew

          first_true : (a b c : Bool) → ((a && b) && c) ≡ true → a ≡ true
          first_true true b c e = refl
          first_true false b c e = absurd (cc)

          inside : IsInWindow f w.save w.suspend p
          inside = ((each_is (IsWindow f) (own_facts g s).windows (start.places.windows s.top.func) kept.0 w
              kept.1).inside
              p).0
              (first_true _ _ _ kept.2)

          before : IsAfterEnd f p → ⊥
          before a = (own_places start).no_suspend w.suspend
              (after_path f (w.save ∷ w.suspend ∷ []) p inside.to_suspend.between w.suspend a inside.to_suspend.is_path)
              (suspend_is_suspend f w.save w.suspend (window_pair g start.places s.top.func kept.0 w kept.1).takes)

          both_true : (a b : Bool) → (a && b) ≡ true → (a ≡ true) × (b ≡ true)
          both_true true b e = (refl, e)
          both_true false b e = absurd (cc)

          saved_by : (x : Instance) (o : Option Saved) → x.last_save ≡ o → is_save (length s.below) w.save o ≡ true
              → (y : Saved) × (x.last_save ≡ Some y) × (y.depth ≡ length s.below)
          saved_by x None eo e = absurd (cc)
          saved_by x (Some y) eo e =
              let d = (both_true (y.depth == length s.below) _ e).0 in
              let same : y.depth ≡ length s.below = grind (arith, d) in (y, eo, same)

          by : (n : ℕ) (x : Instance) → s.top.instance ≡ Some n → slice_get s.instances n ≡ Some x → (b : Bool)
              → list_all (may_leave (length s.below) x) (w ∷ ws) ≡ b
              → Fine (ok_if b Cause.State (enter_block g (with_left (with_status s n x Status.Running) false) label))
          by n x en ex false e = tt
          by n x en ex true e =
              let one = (both_true (may_leave (length s.below) x w) _ e).0 in
              let two = both_true (is_suspended x.status) (is_save (length s.below) w.save x.last_save) one in
              let y = saved_by x x.last_save refl two.1 in
              entered m counts (with_left (with_status s n x Status.Running) false)
              (woken_alive m counts s h (ordered start) n x en ex y.0 two.0 y.1 y.2 before)
              (λ j z ej ez. let v = set_like s.instances n x (record x { status = Status.Running }) ex refl j z ez in
              v.2 ∙ (ordered start).own j v.0 ej v.1) ramp (own_rules start) (stays_here start) t stands label branches
              from

      on : (ws : List Window) → left_windows g s label ≡ ws → Fine (branch_leaving g s label ws)
      on [] e = entered m counts s h (ordered start).own ramp (own_rules start) (stays_here start) t stands label
          branches from
      on (w ∷ ws) e = leaving w ws e (own_instance s) (own_there s)

  pub returns_fine : (t : Terminator) → here ≡ AtTerm t → (arg : Option Arg) → t ≡ Terminator.Ret arg
      → (v : Option Value)
      → Fine (return s v)
  returns_fine t stands arg is v = return_alive m counts s h (ordered start).lower never v
    where
      never : (j : ℕ) (x : Instance) → s.top.instance ≡ Some j → slice_get s.instances j ≡ Some x
          → s.top.has_left ≡ false → x.status ≡ Status.Running → x.freed ≡ false → ⊥
      never j x ej ex left run kept =
          let over : is_over x ≡ false = (λ k. is_finished (run k) || kept k) in
          let alive = h.stack.0.goes j x ej ex (Stays left) over in
          (own_rules start).returns p arg (stands ∙ ap AtTerm is) (subst (RunsOut f) (at_point start) alive.runs)
