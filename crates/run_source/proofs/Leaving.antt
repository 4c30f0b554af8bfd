-- Branches that leave windows.
use Rattle.std.proofs.Common.{◌≡◌, ℕ, Bool, true, false, List, [], ◌∷◌, length, refl, ap, sym, ◌∙◌, Option, Some, Err, Ok}
use Rattle.std.specs.Prelude.{Result, IfErr, filter, slice_get, unwrap_or}
use Rattle.std.specs.List.{list_all}
use Rattle.std.proofs.lemmas.Bool.{false≢true}
use Rattle.ir_base.specs.declared.cause.Cause.{Cause}
use Rattle.ir_model.specs.Names.{position_of}
use Rattle.ir_paths.specs.Windows.{leaves}
use Rattle.ir_paths.specs.declared.point.Facts.{Facts}
use Rattle.ir_paths.specs.declared.point.Point.{Point}
use Rattle.ir_paths.specs.declared.point.Window.{Window}
use Rattle.run_source_tables.specs.run_step.Results.{and_then, found, ok_if}
use Rattle.run_source_tables.specs.Lookups.{not_empty}
use Rattle.run_source.specs.Source.{branch_leaving, enter_block, go_to, leave, left_windows, may_leave}
use Rattle.run_source.specs.SourceEffects.{IsStop}
use Rattle.run_source.specs.State.{function_of, own_instance, point_of, with_left, with_status}
use Rattle.run_source_tables.specs.Given.{Given, facts_at}
use Rattle.run_source.specs.declared.effects.Stop.{Stop}
use Rattle.run_source.specs.declared.state.Instance.{Instance}
use Rattle.run_source.specs.declared.state.State.{State}
use Rattle.run_source.specs.declared.state.Status.{Status}
use Rattle.run_source.proofs.Acting.{is-stop}

abbrev leave_with : Given → State → ℕ → List Window → Option (ℕ × Instance) → Result State Cause
leave_with g s label windows o =
    and_then (found Cause.State o) (λ (i, x).
    ok_if (list_all (may_leave (length s.below) x) windows) Cause.State
    (enter_block g (with_left (with_status s i x Status.Running) false) label))

pub leave-refused : (g : Given) (s : State) (label i depth : ℕ) (x : Instance) (windows : List Window) → own_instance s ≡ Some (i, x) → depth ≡ length s.below → list_all (λ w. may_leave depth x w) windows ≡ false → leave g s label windows ≡ Err Cause.State
leave-refused g s label i depth x windows own at not =
    let done : State = enter_block g (with_left (with_status s i x Status.Running) false) label in
    ap (leave_with g s label windows) own
    ∙ ap (λ n. ok_if (list_all (λ w. may_leave n x w) windows) Cause.State done) (sym at)
    ∙ ap (λ b. ok_if b Cause.State done) not

leaving-is : (g : Given) (s : State) (label : ℕ) (ws : List Window) → true ≡ not_empty ws → branch_leaving g s label ws ≡ leave g s label ws
leaving-is g s label [] e = absurd (false≢true (sym e))
leaving-is g s label (w ∷ ws) e = refl

pub leaving : (g : Given) (s : State) (label at : ℕ) (p : Point) (f : Facts) (ws : List Window) → p ≡ point_of s → at ≡ position_of (function_of g s) label → slice_get g.facts s.top.func ≡ Some f → ws ≡ f.windows → true ≡ not_empty (filter (λ w. leaves p (record { block = at; at = 0 }) w) ws) → go_to g s label ≡ leave g s label (filter (λ w. leaves p (record { block = at; at = 0 }) w) ws)
leaving g s label at p f ws ps ats fs is some =
    let L : Point → ℕ → List Window → List Window = λ p n l. filter (λ w. leaves p (record { block = n; at = 0 }) w) l in
    let none : Facts = record { windows = []; ramp_slots = [] } in
    let e : left_windows g s label ≡ L p at ws =
    ap (λ (o : Option Facts). L (point_of s) (position_of (function_of g s) label) (unwrap_or o none).windows) fs
    ∙ ap (λ l. L (point_of s) (position_of (function_of g s) label) l) (sym is)
    ∙ ap (λ n. L (point_of s) n ws) (sym ats)
    ∙ ap (λ q. L q at ws) (sym ps) in
    ap (branch_leaving g s label) e ∙ leaving-is g s label (L p at ws) some

pub leaving-refused : (g : Given) (s : State) (label : ℕ) (r : Result (Unit {0}) Stop) (ws : List Window) → go_to g s label ≡ leave g s label ws → IfErr r (λ stop. IsStop stop (leave g s label ws)) → IfErr r (λ stop. IsStop stop (go_to g s label))
leaving-refused g s label (Ok u) ws e h = tt
leaving-refused g s label (Err stop) ws e h = is-stop stop (leave g s label ws) (go_to g s label) e h
