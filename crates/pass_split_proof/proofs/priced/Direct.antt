-- Where an edge gets no block, a branch comes to where it came.
use Rattle.std.proofs.Common.{◌≡◌, ℕ, Bool, true, false, List, [], ◌∷◌, length, refl, sym, ap, ◌∙◌, subst}
use Rattle.std.proofs.lemmas.List.{length-map}
use Rattle.std.specs.List.{list_all}
use Rattle.std.specs.Prelude.{ℤ, Some, None, Ok, Option, filter, map}
use Rattle.pass_proofs.specs.frame_layout.declared.layout.Layout.{Layout}
use Rattle.pass_proofs.specs.ir_base.declared.cause.Cause.{Cause}
use Rattle.pass_proofs.specs.ir_laws.facts.sound_states.Named.{HasNamedPhis}
use Rattle.pass_proofs.specs.ir_model.Names.{function_at, position_of}
use Rattle.pass_proofs.specs.ir_model.declared.module.Function.{Function}
use Rattle.pass_proofs.specs.ir_model.declared.module.Module.{Module}
use Rattle.pass_proofs.specs.ir_paths.Paths.{entry_point}
use Rattle.pass_proofs.specs.ir_paths.Windows.{leaves}
use Rattle.pass_proofs.specs.ir_paths.declared.point.Facts.{Facts}
use Rattle.pass_proofs.specs.ir_paths.declared.point.Point.{Point}
use Rattle.pass_proofs.specs.ir_paths.declared.point.Window.{Window}
use Rattle.pass_proofs.specs.run_framed.Framed.{FramedGiven, framed_given}
use Rattle.pass_proofs.specs.run_source.Source.{branch_leaving, enter_block, go_to, left_windows, may_leave}
use Rattle.pass_proofs.specs.run_source.State.{own_facts, own_instance, point_of, with_left, with_status}
use Rattle.pass_proofs.specs.run_source.declared.state.Instance.{Instance}
use Rattle.pass_proofs.specs.run_source.declared.state.State.{State}
use Rattle.pass_proofs.specs.run_source.declared.state.Status.{Status}
use Rattle.pass_proofs.proofs.run_states.moved_states.Entering.{enters_direct}
use Rattle.pass_proofs.proofs.run_states.moved_states.Parts.{facts_are, facts_moved, function_moved}
use Rattle.pass_proofs.proofs.run_states.moved_states.States.{may_leave_moved, own_moved, with_instance_moved, with_number}
use Rattle.pass_proofs.specs.run_states.branches.MovedState.{IsOwnedBy}
use Rattle.pass_proofs.specs.run_states.moved_states.MovedState.{moved_activation, moved_instance, moved_module, moved_result, moved_state}
use Rattle.pass_proofs.specs.run_states.moved_states.Moving.{KeepsKinds, Moves, Moving, moved_point, saves_left}
use Rattle.pass_proofs.specs.run_step.Results.{and_then, found, ok_if}

module _ (mv : Moving) (kinds : KeepsKinds mv) (m : Module) (layouts : List Layout) (answers : List ℤ) (s : State)
    (moves : Moves mv (function_at m s.top.func)) (phis : HasNamedPhis (function_at m s.top.func))
    (room : length s.top.values ≡ length (function_at m s.top.func).names) (own : IsOwnedBy s (own_instance s))
    (t l : ℕ)
    (to : position_of (mv.to (function_at m s.top.func)) l
    ≡ mv.spot (function_at m s.top.func) (position_of (function_at m s.top.func) t))
    (left : saves_left (mv.to (function_at m s.top.func)) (moved_point mv (function_at m s.top.func) (point_of s))
    (entry_point (mv.to (function_at m s.top.func)) l)
    ≡ map (moved_point mv (function_at m s.top.func))
    (saves_left (function_at m s.top.func) (point_of s) (entry_point (function_at m s.top.func) t))) where
  abbrev g : FramedGiven
  g = framed_given m layouts answers

  abbrev k : FramedGiven
  k = framed_given (moved_module mv m) layouts answers

  abbrev saves : List Window → List Point
  saves ws = map (λ w. w.save) ws

  abbrev AreLeftHere : List Window → List Window → Type 0
  AreLeftHere ws vs = saves vs ≡ map (moved_point mv (function_at m s.top.func)) (saves ws)

  tested : (a b : Bool) (x u : State) → b ≡ a → u ≡ moved_state mv m x
      → ok_if b Cause.State u ≡ moved_result mv m (ok_if a Cause.State x)
  tested true true x u e n = ap Ok n
  tested true false x u e n = absurd (cc)
  tested false true x u e n = absurd (cc)
  tested false false x u e n = refl

  leave_same : (o : Option (ℕ × Instance)) → IsOwnedBy s o → (ws vs : List Window) → AreLeftHere ws vs
      → and_then (found Cause.State (with_number mv m o)) (λ (y : ℕ × Instance).
      ok_if (list_all (may_leave (length (map (moved_activation mv m) s.below)) y.1) vs) Cause.State
      (enter_block k.given (with_left (with_status (moved_state mv m s) y.0 y.1 Status.Running) false) l))
      ≡ moved_result mv m (and_then (found Cause.State o) (λ (y : ℕ × Instance).
      ok_if (list_all (may_leave (length s.below) y.1) ws) Cause.State
      (enter_block g.given (with_left (with_status s y.0 y.1 Status.Running) false) t)))
  leave_same None e ws vs all = refl
  leave_same (Some y) e ws vs all =
      tested (list_all (may_leave (length s.below) y.1) ws)
      (list_all (may_leave (length (map (moved_activation mv m) s.below)) (moved_instance mv m y.1)) vs)
      (enter_block g.given (with_left (with_status s y.0 y.1 Status.Running) false) t)
      (enter_block k.given (with_left (with_status (moved_state mv m s) y.0 (moved_instance mv m y.1) Status.Running)
      false) l)
      (ap (λ (n : ℕ). list_all (may_leave n (moved_instance mv m y.1)) vs)
      (length-map s.below (moved_activation mv m))
      ∙ may_leave_moved mv m (function_at m s.top.func) moves.spots (length s.below) y.1 (ap (function_at m) e) ws vs
      all)
      (ap (λ (x : State). enter_block k.given (with_left x false) l)
      (with_instance_moved mv m s y.0 (record y.1 { status = Status.Running }))
      ∙ enters_direct mv kinds m layouts answers (with_left (with_status s y.0 y.1 Status.Running) false) moves phis
      room t l to)

  branch_same : (ws vs : List Window) → AreLeftHere ws vs
      → branch_leaving k.given (moved_state mv m s) l vs ≡ moved_result mv m (branch_leaving g.given s t ws)
  branch_same [] [] all = ap Ok (enters_direct mv kinds m layouts answers s moves phis room t l to)
  branch_same [] (v ∷ vs) all = absurd (cc)
  branch_same (w ∷ ws) [] all = absurd (cc)
  branch_same (w ∷ ws) (v ∷ vs) all =
      subst (λ (o : Option (ℕ × Instance)). and_then (found Cause.State o) (λ (y : ℕ × Instance).
      ok_if (list_all (may_leave (length (map (moved_activation mv m) s.below)) y.1) (v ∷ vs)) Cause.State
      (enter_block k.given (with_left (with_status (moved_state mv m s) y.0 y.1 Status.Running) false) l))
      ≡ moved_result mv m (branch_leaving g.given s t (w ∷ ws)))
      (sym (own_moved mv m s))
      (leave_same (own_instance s) own (w ∷ ws) (v ∷ vs) all)

  windows_left : AreLeftHere (left_windows g.given s t) (left_windows k.given (moved_state mv m s) l)
  windows_left =
      ap (λ (x : Function). saves (filter (leaves (moved_point mv f (point_of s)) (entry_point x l))
      (own_facts k.given (moved_state mv m s)).windows)) (function_moved mv kinds m s.top.func)
      ∙ ap (λ (x : Facts). saves (filter (leaves (moved_point mv f (point_of s)) (entry_point (mv.to f) l)) x.windows))
      (facts_moved mv kinds m s.top.func)
      ∙ left
      ∙ ap (λ (x : Facts). map (moved_point mv f) (saves (filter (leaves (point_of s) (entry_point f t)) x.windows)))
      (sym (facts_are m s.top.func))
    where
      f : Function
      f = function_at m s.top.func

  pub go_direct : go_to k.given (moved_state mv m s) l ≡ moved_result mv m (go_to g.given s t)
  go_direct = branch_same (left_windows g.given s t) (left_windows k.given (moved_state mv m s) l) windows_left
