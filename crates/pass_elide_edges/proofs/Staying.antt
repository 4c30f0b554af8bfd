-- Which windows the edges of both runs leave, by the text.
use Rattle.std.proofs.Common.{◌≡◌, ◌⊎◌, inl, inr, ℕ, true, false, List, [], ◌∷◌, length, refl, sym, ap, ◌∙◌, subst}
use Rattle.std.specs.Prelude.{filter, filter_map, map, option_map}
use Rattle.pass_elide_edges.specs.Keeping.{LeavesNone}
use Rattle.pass_elide_proof.proofs.EdgeEntered.{elided_windows, end_at, framed_windows, function_same}
use Rattle.pass_elide_proof.proofs.PlacingFacts.{by_truth, no_frames}
use Rattle.pass_elide_proof.specs.Edges.{GivesNone, IsEntering, KeepsWindows}
use Rattle.pass_elide_proof.specs.Elision.{Elision, elided, framed, function_in, function_in_elided, rooms}
use Rattle.pass_elide_proof.specs.Places.{instrs_of}
use Rattle.pass_elide_proof.specs.Placing.{KeepsPlaces}
use Rattle.pass_elide_proof.specs.Shapes.{JumpsTo}
use Rattle.pass_elide_proof.specs.pass_proofs.flow_solver.Paths.{IsListed}
use Rattle.pass_elide_proof.specs.pass_proofs.ir_base.declared.outcome.Outcome.{Outcome}
use Rattle.pass_elide_proof.specs.pass_proofs.ir_model.declared.instr.Terminator.{Terminator}
use Rattle.pass_elide_proof.specs.pass_proofs.ir_model.declared.module.Function.{Function}
use Rattle.pass_elide_proof.specs.pass_proofs.ir_model.declared.operand.Operand.{Operand}
use Rattle.pass_elide_proof.specs.pass_proofs.ir_paths.Paths.{entry_point, targets}
use Rattle.pass_elide_proof.specs.pass_proofs.ir_paths.Windows.{is_call_of, leaves, points_where, suspend_of, window_of, windows_of}
use Rattle.pass_elide_proof.specs.pass_proofs.ir_paths.declared.point.Point.{Point}
use Rattle.pass_elide_proof.specs.pass_proofs.ir_paths.declared.point.Window.{Window}
use Rattle.pass_elide_proof.specs.pass_proofs.ir_model.declared.operand.Intrinsic.{Intrinsic}
use Rattle.pass_elide_proof.specs.pass_proofs.run_source.Source.{left_windows}
use Rattle.pass_elide_proof.specs.pass_proofs.run_source.State.{function_of}
use Rattle.pass_elide_proof.specs.pass_proofs.run_source.declared.state.State.{State}
use Rattle.pass_elide_proof.specs.pass_proofs.run_step.Step.{AtTerm, fetch}

-- ---- windows of the text

module _ (e : Elision) (s : State) (block label : ℕ) (same : s.top.block ≡ block)
    (ends : s.top.at ≡ length (instrs_of (function_in e s.top.func) s.top.block)) where
  pub stays_by : LeavesNone (function_in e s.top.func) block label → left_windows (framed e).given s label ≡ []
  stays_by none =
      (λ j. filter (leaves (record {
        block = same j;
        at = (ends ∙ ap (λ (b : ℕ). length (instrs_of (function_in e s.top.func) b)) same) j;
      }) (entry_point (function_in e s.top.func) label)) (framed_windows e s.top.func j))
      ∙ none

-- the run that gives frames leaves none either, where no call of the function gives one
pub stays_too : (e : Elision) (t : State) (func block label : ℕ) → t.top.func ≡ func → t.top.block ≡ block
    → t.top.at ≡ length (instrs_of (function_in e func) block) → GivesNone e func
    → LeavesNone (function_in e func) block label → left_windows (elided e).given t label ≡ []
stays_too e t func block label is same ends gives none =
    let function : function_in_elided e t.top.func ≡ function_in e func
    = ap (function_in_elided e) is ∙ function_same e func gives in
    (λ j. filter (leaves (record { block = same j; at = ends j }) (entry_point (function j) label))
    ((elided_windows e t.top.func ∙ ap windows_of function) j))
    ∙ none

-- ---- functions without windows

no_windows : (f : Function) → points_where (is_call_of Intrinsic.CoroSave) f ≡ [] → windows_of f ≡ []
no_windows f h =
    ap (λ (ps : List Point). map (λ (q : Point × Point). window_of f q.0 q.1)
    (filter_map (λ save. option_map (λ suspend. (save, suspend)) (suspend_of f save)) ps)) h

module _ (e : Elision) (keeps : KeepsPlaces e) (func : ℕ) where
  pub gives_none : (function_in e func).coroutine ≡ true → GivesNone e func
  gives_none is = no_frames (rooms e func) (keeps.wakes func is).none (function_in e func)

  pub keeps_windows : KeepsWindows e func
  keeps_windows =
      by_truth (function_in e func).coroutine (λ is. inr (gives_none is)) (λ is. inl (keeps.plain func is))

-- only a coroutine leaves windows
pub leaving_coroutine : (e : Elision) (keeps : KeepsPlaces e) (s : State) (label : ℕ) (w : Window) (ws : List Window)
    → left_windows (framed e).given s label ≡ w ∷ ws → (function_in e s.top.func).coroutine ≡ true
leaving_coroutine e keeps s label w ws leaves' =
    by_truth (function_in e s.top.func).coroutine (λ is. is) plain
  where
    plain : (function_in e s.top.func).coroutine ≡ false → (function_in e s.top.func).coroutine ≡ true
    plain is =
        let none : left_windows (framed e).given s label ≡ []
        = ap (filter (leaves (record { block = s.top.block; at = s.top.at })
        (entry_point (function_in e s.top.func) label)))
        (framed_windows e s.top.func ∙ no_windows (function_in e s.top.func) (keeps.plain s.top.func is)) in
        let no : [] ≡ w ∷ ws = sym none ∙ leaves' in
        absurd (cc)

-- ---- the two labels of a branch

pub two_labels : (one other label : ℕ) (x : Operand) → IsListed label (targets (Terminator.Branch x one other))
    → (one ≡ label) ⊎ (other ≡ label)
two_labels one other label x (inl is) = inl (sym is)
two_labels one other label x (inr (inl is)) = inr (sym is)
two_labels one other label x (inr (inr none)) = absurd none

pub to_one : (one other : ℕ) (x : Operand) → IsListed one (targets (Terminator.Branch x one other))
to_one one other x = inl refl

pub to_other : (one other : ℕ) (x : Operand) → IsListed other (targets (Terminator.Branch x one other))
to_other one other x = inr (inl refl)

pub branch_stays : (f : Function) (block one other label : ℕ) (x : Operand)
    → IsListed label (targets (Terminator.Branch x one other)) → LeavesNone f block one → LeavesNone f block other
    → LeavesNone f block label
branch_stays f block one other label x h first second = on (two_labels one other label x h)
  where
    on : (one ≡ label) ⊎ (other ≡ label) → LeavesNone f block label
    on (inl is) = subst (λ (l : ℕ). LeavesNone f block l) is first
    on (inr is) = subst (λ (l : ℕ). LeavesNone f block l) is second

-- ---- jumps

pub jump_there : (f : Function) (block to : ℕ) (j : JumpsTo f block to) (here at : ℕ) (term : Terminator)
    → here ≡ block → fetch f here at ≡ AtTerm term → fetch f here at ≡ AtTerm (Terminator.Jump j.label)
jump_there f block to j here at term same there =
    (λ i. fetch f (same i)
    ((end_at f here at term there ∙ ap (λ (b : ℕ). length (instrs_of f b)) same) i)) ∙ j.stands

module _ (e : Elision) (s : State) (runs : s.outcome ≡ Outcome.Running) (term : Terminator)
    (there : fetch (function_of (framed e).given s) s.top.block s.top.at ≡ AtTerm term) where
  abbrev f : Function
  f = function_in e s.top.func

  pub ends_here : s.top.at ≡ length (instrs_of (function_in e s.top.func) s.top.block)
  ends_here = end_at f s.top.block s.top.at term there

  -- the run goes over a jump
  pub jumps_on : (block to : ℕ) (j : JumpsTo (function_in e s.top.func) block to) → s.top.block ≡ block
      → LeavesNone (function_in e s.top.func) block j.label → IsEntering (framed e) s j.label
  jumps_on block to j same none = record {
    runs = runs;
    term = Terminator.Jump j.label;
    there = jump_there f block to j s.top.block s.top.at term same there;
    goes = refl;
    stays = stays_by e s block j.label same ends_here none;
  }
