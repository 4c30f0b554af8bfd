-- Edges that leave windows: what is asked where both runs take one.
use Rattle.std.specs.List.{list_all}
use Rattle.std.specs.Prelude.{◌≡◌, ℕ, true, List, ◌∷◌, length, Some}
use Rattle.pass_elide_proof.specs.Edges.{GivesNone, IsAlike, IsHeldOn, IsPhiAlike, chosen_by, label_from, phis_at}
use Rattle.pass_elide_proof.specs.Elision.{Elision, framed, function_in, rooms}
use Rattle.pass_elide_proof.specs.Match.{is_given_mode}
use Rattle.pass_elide_proof.specs.Places.{front_at}
use Rattle.pass_proofs.specs.ir_base.declared.outcome.Outcome.{Outcome}
use Rattle.pass_proofs.specs.ir_model.Names.{position_of}
use Rattle.pass_proofs.specs.ir_model.declared.instr.Terminator.{Terminator}
use Rattle.pass_proofs.specs.ir_paths.declared.point.Window.{Window}
use Rattle.pass_proofs.specs.run_framed.Framed.{FramedGiven, framed_context}
use Rattle.pass_proofs.specs.run_laws.changed.Changed.{Each}
use Rattle.pass_proofs.specs.run_source.Source.{left_windows, may_leave}
use Rattle.pass_proofs.specs.run_source.State.{function_of, own_instance, work_of}
use Rattle.pass_proofs.specs.run_source.declared.state.Instance.{Instance}
use Rattle.pass_proofs.specs.run_source.declared.state.State.{State}
use Rattle.pass_proofs.specs.run_step.Step.{AtTerm, GoTo, fetch, term_action}

-- the run goes to a label and leaves windows, so that its own instance runs again
pub record IsLeaving (g : FramedGiven) (s : State) (label : ℕ) : Type 0 where
  pub runs : s.outcome ≡ Outcome.Running
  pub term : Terminator
  pub there : fetch (function_of g.given s) s.top.block s.top.at ≡ AtTerm term
  pub goes : term_action (framed_context g s) (work_of s) term ≡ GoTo label
  pub window : Window
  pub windows : List Window
  pub leaves : left_windows g.given s label ≡ window ∷ windows
  pub number : ℕ
  pub instance : Instance
  pub own : own_instance s ≡ Some (number, instance)
  pub may : list_all (may_leave (length s.below) instance) (window ∷ windows) ≡ true

pub record IsAtExit (e : Elision) (s t : State) (label : ℕ) : Type 0 where
  pub exits : IsLeaving (framed e) s label
  -- the instance of an activation is one of its function
  pub is_its : exits.instance.coroutine ≡ s.top.func
  pub beside : t.top.block ≡ s.top.block
  pub stands : t.top.at ≡ front_at (rooms e s.top.func) (function_in e s.top.func) s.top.block s.top.at
  pub none : GivesNone e s.top.func
  pub chosen : IsAlike e s t (chosen_by exits.term)
  pub phis : Each (IsPhiAlike e s t (label_from (function_in e s.top.func) s.top.block))
      (phis_at (function_in e s.top.func) (position_of (function_in e s.top.func) label))
  pub held : is_given_mode t.top.mode ≡ true → IsHeldOn e s (position_of (function_in e s.top.func) label)
