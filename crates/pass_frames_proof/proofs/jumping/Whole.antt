-- A jump to an ordinary block is followed: over the end of its block, and the stores of phis in front of the next one.
use Rattle.std.proofs.Common.{◌≡◌, length, ℕ}
use Rattle.std.specs.Prelude.{Some, slice_get}
use Rattle.pass_frames_steps.specs.ir_model.declared.instr.Terminator.{Terminator}
use Rattle.pass_frames_steps.specs.pass_cells.Written.{stored_phis}
use Rattle.pass_frames_proof.proofs.jumping.Ends.{ends_led}
use Rattle.pass_frames_proof.proofs.jumping.Fronts.{front_led}
use Rattle.pass_frames_proof.proofs.jumping.Jumps.{jump_followed}
use Rattle.pass_frames_proof.proofs.jumping.Places.{ends_there, front_there}
use Rattle.pass_frames_steps.specs.Code.{end_code, end_term, last_state}
use Rattle.pass_frames_steps.specs.Edges.{AreEndsLed, ArePhisGiven, IsAtJump, block_to}
use Rattle.pass_frames_steps.specs.Followed.{IsFollowed}
use Rattle.pass_frames_steps.specs.Jumps.{MayJump}
use Rattle.pass_frames_steps.specs.Leaving.{IsBranch, further}
use Rattle.pass_frames_steps.specs.Passes.{block_at}
use Rattle.pass_frames_steps.specs.Phis.{IsOrdinaryBlock}
use Rattle.pass_frames_steps.specs.Places.{edged, fetched, plan}
use Rattle.pass_frames_steps.specs.Related.{AreBuiltOf, Building}
use Rattle.pass_frames_steps.specs.Stepping.{AreGiven}
use Rattle.pass_frames_steps.specs.pass_renewed_proof.Renewed.{RenewedGiven}
use Rattle.pass_frames_steps.specs.run_source.declared.state.State.{State}

pub whole_jump_followed : (b : Building) (g : RenewedGiven) → AreGiven b g → (s t : State) (r : AreBuiltOf b s t)
    (e : Terminator) (label : ℕ) → IsAtJump b g s e label
    → slice_get (edged (b.framing s.top.func)).blocks s.top.block
    ≡ Some (block_at (edged (b.framing s.top.func)) s.top.block)
    → slice_get (edged (b.framing s.top.func)).blocks (block_to (b.framing s.top.func) label)
    ≡ Some (block_at (edged (b.framing s.top.func)) (block_to (b.framing s.top.func) label))
    → IsOrdinaryBlock (b.framing s.top.func) (block_to (b.framing s.top.func) label) → MayJump b g s t r label
    → ((ends : AreEndsLed b g s t r label
    (end_code (b.framing s.top.func) s.top.block (last_state (b.framing s.top.func) s.top.block))
    (end_term (b.framing s.top.func) (last_state (b.framing s.top.func) s.top.block)
    (block_at (edged (b.framing s.top.func)) s.top.block).term)) → ArePhisGiven b g s t r label ends.work)
    → IsBranch b g s
    (further t (length (end_code (b.framing s.top.func) s.top.block (last_state (b.framing s.top.func) s.top.block))))
    label → IsFollowed b g s t
whole_jump_followed b g given s t r e label h here there ordinary may phis branch =
    let ends : AreEndsLed b g s t r label
    (end_code (b.framing s.top.func) s.top.block (last_state (b.framing s.top.func) s.top.block))
    (end_term (b.framing s.top.func) (last_state (b.framing s.top.func) s.top.block)
    (block_at (edged (b.framing s.top.func)) s.top.block).term) = ends_led b g given s t r e label h may in
    jump_followed b g given s t r e
    (end_term (b.framing s.top.func) (last_state (b.framing s.top.func) s.top.block)
    (block_at (edged (b.framing s.top.func)) s.top.block).term) label
    (end_code (b.framing s.top.func) s.top.block (last_state (b.framing s.top.func) s.top.block))
    (stored_phis (plan (b.framing s.top.func))
    (block_at (fetched (b.framing s.top.func)) (block_to (b.framing s.top.func) label)).phis) h
    (ends_there (b.framing s.top.func) (given.framings s.top.func h.coroutine) s.top.block here h.unreturned)
    (front_there (b.framing s.top.func) (given.framings s.top.func h.coroutine) (block_to (b.framing s.top.func) label)
    there h.ordinary ordinary) ends
    (front_led b g given s t r e
    (end_term (b.framing s.top.func) (last_state (b.framing s.top.func) s.top.block)
    (block_at (edged (b.framing s.top.func)) s.top.block).term) label
    (end_code (b.framing s.top.func) s.top.block (last_state (b.framing s.top.func) s.top.block)) h ends (phis ends))
    branch
