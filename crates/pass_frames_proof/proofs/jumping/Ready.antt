-- What a jump asks of the code of the framed form comes of the passes.
use Rattle.std.proofs.Common.{◌≡◌, ℕ, ap}
use Rattle.std.specs.Prelude.{Some, slice_get}
use Rattle.pass_frames_steps.specs.ir_model.declared.instr.Terminator.{Terminator}
use Rattle.pass_frames_proof.proofs.jumping.Goes.{goes_there}
use Rattle.pass_frames_proof.proofs.jumping.Labels.{label_there, position_same}
use Rattle.pass_frames_proof.proofs.jumping.Placed.{between_label, phis_placed}
use Rattle.pass_frames_steps.specs.Edges.{IsAtJump, block_to}
use Rattle.pass_frames_steps.specs.Jumps.{CanJump, MayJump}
use Rattle.pass_frames_steps.specs.Passes.{block_at}
use Rattle.pass_frames_steps.specs.Places.{edged}
use Rattle.pass_frames_steps.specs.Related.{AreBuiltOf, Building}
use Rattle.pass_frames_steps.specs.Stepping.{AreGiven}
use Rattle.pass_frames_steps.specs.pass_renewed_proof.Renewed.{RenewedGiven}
use Rattle.pass_frames_steps.specs.run_source.declared.state.State.{State}
use Rattle.pass_frames_steps.specs.run_step.Step.{label_of}

pub may_jump : (b : Building) (g : RenewedGiven) → AreGiven b g → (s t : State) (r : AreBuiltOf b s t) (e : Terminator)
    (label : ℕ) → IsAtJump b g s e label
    → slice_get (edged (b.framing s.top.func)).blocks s.top.block
    ≡ Some (block_at (edged (b.framing s.top.func)) s.top.block)
    → slice_get (edged (b.framing s.top.func)).blocks (block_to (b.framing s.top.func) label)
    ≡ Some (block_at (edged (b.framing s.top.func)) (block_to (b.framing s.top.func) label))
    → CanJump b g s t r e label → MayJump b g s t r label
may_jump b g given s t r e label h here there q = record {
  given = q.given;
  reached = q.reached;
  ends = q.ends;
  label_same = between_label (b.framing s.top.func) s.top.block here;
  phis = phis_placed (b.framing s.top.func) (block_to (b.framing s.top.func) label) h.later
      (block_at (edged (b.framing s.top.func)) (block_to (b.framing s.top.func) label)) there;
  seen = q.seen;
  below = q.below;
  unset = q.unset;
  source_label = ap label_of here;
  target_label = label_there (b.framing s.top.func) s.top.block (block_at (edged
      (b.framing s.top.func)) s.top.block) here;
  block = position_same (b.framing s.top.func) label (block_to (b.framing s.top.func) label) q.labelled;
  goes = λ run. goes_there b g given s t r e label h q.given q.reached q.go run;
}
