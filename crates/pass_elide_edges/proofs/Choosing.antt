-- Where a run goes from the end of a block, if it isn't undefined there.
use Rattle.std.proofs.Common.{◌≡◌, ℕ, Bool, true, false, List, [], ◌∷◌, length, Option, refl, sym, ap, ◌∙◌, subst, ◌==◌}
use Rattle.std.specs.List.{list_all}
use Rattle.std.specs.Prelude.{None, Ok, Some, if◌then◌else◌}
use Rattle.pass_elide_edges.specs.Keeping.{HasEdge}
use Rattle.pass_elide_proof.proofs.AtCalls.{fine_ok}
use Rattle.pass_elide_proof.proofs.CallersEdges.{goes_listed}
use Rattle.pass_elide_proof.proofs.EdgeEntered.{end_at}
use Rattle.pass_elide_proof.specs.Elision.{Elision, framed, function_in}
use Rattle.pass_elide_proof.specs.pass_proofs.ir_base.declared.cause.Cause.{Cause}
use Rattle.pass_elide_proof.specs.pass_proofs.ir_base.declared.outcome.Outcome.{Outcome}
use Rattle.pass_elide_proof.specs.pass_proofs.ir_model.Ty.{int}
use Rattle.pass_elide_proof.specs.pass_proofs.ir_model.declared.instr.Terminator.{Terminator}
use Rattle.pass_elide_proof.specs.pass_proofs.ir_model.declared.operand.Arg.{Arg}
use Rattle.pass_elide_proof.specs.pass_proofs.ir_paths.declared.point.Window.{Window}
use Rattle.pass_elide_proof.specs.pass_proofs.run_agreement.Machines.{IsFine}
use Rattle.pass_elide_proof.specs.pass_proofs.run_framed.Framed.{framed_act, framed_advance, framed_context, framed_next, framed_step}
use Rattle.pass_elide_proof.specs.pass_proofs.run_memory.declared.pointer.Value.{Value}
use Rattle.pass_elide_proof.specs.pass_proofs.run_source.Source.{branch_leaving, enter_block, left_windows, may_leave}
use Rattle.pass_elide_proof.specs.pass_proofs.run_source.State.{function_of, or_undefined, own_instance, with_left, with_status, work_of}
use Rattle.pass_elide_proof.specs.pass_proofs.run_source.declared.state.Instance.{Instance}
use Rattle.pass_elide_proof.specs.pass_proofs.run_source.declared.state.State.{State}
use Rattle.pass_elide_proof.specs.pass_proofs.run_source.declared.state.Status.{Status}
use Rattle.pass_elide_proof.specs.pass_proofs.run_step.Results.{and_then, found, ok_if}
use Rattle.pass_elide_proof.specs.pass_proofs.run_step.Step.{AtTerm, GoTo, branch, fetch, switch, target_of, term_action, value_at}
use Rattle.pass_elide_proof.specs.pass_proofs.run_step.Values.{arg_value}

-- ---- the terminator

-- it leads to a label, or is a ret
pub data Comes (e : Elision) (s : State) (term : Terminator) : Type 0 where
  Goes : (label : ℕ) → term_action (framed_context (framed e) s) (work_of s) term ≡ GoTo label → Comes e s term
  Returns : (value : Option Arg) → term ≡ Terminator.Ret value → Comes e s term

module _ (e : Elision) (s : State) where
  comes_by : (u : State) (term : Terminator)
      → framed_act (framed e) s (term_action (framed_context (framed e) s) (work_of s) term) ≡ Ok u → Comes e s term
  comes_by u (Terminator.Jump label) h = Goes label refl
  comes_by u (Terminator.Branch x one other) h =
      on (value_at (framed_context (framed e) s) (work_of s) (int 1) x) refl h
    where
      on : (v : Value) → value_at (framed_context (framed e) s) (work_of s) (int 1) x ≡ v
          → framed_act (framed e) s (branch v one other) ≡ Ok u → Comes e s (Terminator.Branch x one other)
      on (Value.Int w) is h =
          Goes (if w.bits == 1 then one else other) (ap (λ (v : Value). branch v one other) is)
      on Value.Poison is h = absurd (cc)
      on (Value.Ptr p) is h = absurd (cc)
  comes_by u (Terminator.Switch arg default cases) h =
      on (arg_value e.code s.top.values arg) refl h
    where
      on : (v : Value) → arg_value e.code s.top.values arg ≡ v
          → framed_act (framed e) s (switch e.code v default cases) ≡ Ok u
          → Comes e s (Terminator.Switch arg default cases)
      on (Value.Int w) is h =
          Goes (target_of e.code w default cases) (ap (λ (v : Value). switch e.code v default cases) is)
      on Value.Poison is h = absurd (cc)
      on (Value.Ptr p) is h = absurd (cc)
  comes_by u (Terminator.Ret value) h = Returns value refl
  comes_by u Terminator.Unreachable h = absurd (cc)

  module _ (term : Terminator) (runs : s.outcome ≡ Outcome.Running) (fine : IsFine (framed_step (framed e) s).outcome)
      (there : fetch (function_of (framed e).given s) s.top.block s.top.at ≡ AtTerm term) where
    pub acts : (u : State)
        × (framed_act (framed e) s (term_action (framed_context (framed e) s) (work_of s) term) ≡ Ok u)
    acts =
        fine_ok (framed e).given s (framed_next (framed e) s (AtTerm term))
        (subst (λ (z : State). IsFine z.outcome)
        (ap (framed_advance (framed e) s) runs
        ∙ ap (λ z. or_undefined (framed e).given s (framed_next (framed e) s z)) there) fine)

    pub comes : Comes e s term
    comes = comes_by acts.0 term acts.1

    pub has_edge : (label : ℕ) → term_action (framed_context (framed e) s) (work_of s) term ≡ GoTo label
        → HasEdge (function_in e s.top.func) s.top.block label
    has_edge label goes = record {
      term = term;
      stands =
          (λ j. fetch (function_in e s.top.func) s.top.block
          (sym (end_at (function_in e s.top.func) s.top.block s.top.at term there) j))
          ∙ there;
      leads = goes_listed (framed_context (framed e) s) (work_of s) label term goes;
    }

-- ---- the edge

-- it leaves no window, or the own instance was suspended by the save of each that it leaves
pub data Edge (e : Elision) (s : State) (label : ℕ) : Type 0 where
  Stays : left_windows (framed e).given s label ≡ [] → Edge e s label
  Leaves : (window : Window) (windows : List Window) (number : ℕ) (instance : Instance)
      → left_windows (framed e).given s label ≡ window ∷ windows → own_instance s ≡ Some (number, instance)
      → list_all (may_leave (length s.below) instance) (window ∷ windows) ≡ true → Edge e s label

module _ (e : Elision) (s : State) (label : ℕ) where
  abbrev left : ℕ → Instance → State
  left i x = enter_block (framed e).given (with_left (with_status s i x Status.Running) false) label

  edge_by : (u : State) (ws : List Window) → left_windows (framed e).given s label ≡ ws
      → branch_leaving (framed e).given s label ws ≡ Ok u → Edge e s label
  edge_by u [] is h = Stays is
  edge_by u (w ∷ ws) is h = on (own_instance s) refl h
    where
      may : (i : ℕ) (x : Instance) → own_instance s ≡ Some (i, x) → (b : Bool)
          → list_all (may_leave (length s.below) x) (w ∷ ws) ≡ b → ok_if b Cause.State (left i x) ≡ Ok u
          → Edge e s label
      may i x own true all h = Leaves w ws i x is own all
      may i x own false all h = absurd (cc)

      on : (o : Option (ℕ × Instance)) → own_instance s ≡ o
          → and_then (found Cause.State o) (λ (y : ℕ × Instance). ok_if (list_all (may_leave (length s.below) y.1)
          (w ∷ ws)) Cause.State (left y.0 y.1)) ≡ Ok u → Edge e s label
      on None own h = absurd (cc)
      on (Some y) own h = may y.0 y.1 own (list_all (may_leave (length s.below) y.1) (w ∷ ws)) refl h

  pub edge_is : (u : State) → framed_act (framed e) s (GoTo label) ≡ Ok u → Edge e s label
  edge_is u h = edge_by u (left_windows (framed e).given s label) refl h
