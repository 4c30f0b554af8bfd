-- A part executes what stands for an instruction, and jumps to the block of the mark behind it.
use Rattle.std.proofs.Common.{◌≡◌, ℕ, ◌+◌, List, [], length, refl, ap, ◌∙◌}
use Rattle.std.specs.Prelude.{slice_get}
use Rattle.pass_proofs.specs.ir_base.declared.outcome.Outcome.{Outcome}
use Rattle.pass_proofs.specs.ir_model.Names.{position_of}
use Rattle.pass_proofs.specs.ir_model.declared.instr.Instr.{Instr}
use Rattle.pass_proofs.specs.ir_model.declared.instr.Phi.{Phi}
use Rattle.pass_proofs.specs.ir_model.declared.instr.Terminator.{Terminator}
use Rattle.pass_split_proof.proofs.steps.Settled.{plain_does}
use Rattle.pass_split_proof.specs.places.Places.{Remain}
use Rattle.pass_split_proof.specs.states.Going.{stands_at}
use Rattle.run_access_worked.proofs.Machines.{plain_line}
use Rattle.run_access_worked.specs.Machines.{plain_ahead}
use Rattle.pass_proofs.proofs.run_agreement.Runs.{iterate-add}
use Rattle.pass_proofs.specs.run_laws.access.Lines.{Runs}
use Rattle.run_access_worked.specs.run_plain.Plain.{PlainGiven, plain_context, plain_function, plain_go_to, plain_step, plain_work}
use Rattle.run_access_worked.specs.run_plain.declared.state.PlainState.{PlainState}
use Rattle.pass_proofs.specs.run_step.Runs.{iterate}
use Rattle.pass_proofs.specs.run_step.Step.{AtTerm, GoTo, Work, label_of, phi_values, phis_of, with_all}

module _ (h : PlainGiven) (t : PlainState) (running : t.outcome ≡ Outcome.Running) (line : List Instr) (mark : ℕ)
    (x : Work)
    (remain : Remain (plain_function h t) t.top.block t.top.at line (Terminator.Jump mark))
    (bare : phis_of (slice_get (plain_function h t).blocks (position_of (plain_function h t) mark)) ≡ [])
    (runs : Runs (plain_context h t) line (plain_work t) x) where
  abbrev behind : PlainState
  behind = plain_ahead t (length line) x

  jumps : plain_step h behind ≡ plain_go_to h behind mark
  jumps = plain_does h behind (AtTerm (Terminator.Jump mark)) (GoTo mark) running remain.ends refl

  no_phis : plain_go_to h behind mark ≡ stands_at t (position_of (plain_function h t) mark) 0 x
  no_phis = ap (λ (ps : List Phi). stands_at t (position_of (plain_function h t) mark) 0
      (record {
        world = x.world;
        values = with_all x.values (phi_values h.code x.values
            (label_of (slice_get (plain_function h t).blocks t.top.block)) ps);
      })) bare

  pub line_marked : iterate (plain_step h) (length line + 1) t ≡ stands_at t (position_of (plain_function h t) mark) 0 x
  line_marked = iterate-add (plain_step h) (length line) 1 t
      ∙ ap (plain_step h) (plain_line h t running line x remain.stand runs)
      ∙ jumps ∙ no_phis
