-- What is asked of a module in which calls give frames, and of its framed runs.
use Rattle.std.specs.Prelude.{◌≡◌, ℕ, Bool, false, List, Option}
use Rattle.pass_split_proof.specs.pass_proofs.ir_base.declared.outcome.Outcome.{Outcome}
use Rattle.pass_split_proof.specs.pass_proofs.ir_base.declared.outcome.Word.{Word}
use Rattle.pass_split_proof.specs.pass_proofs.ir_model.Ty.{Ty}
use Rattle.pass_split_proof.specs.pass_proofs.ir_model.declared.instr.Instr.{Instr}
use Rattle.pass_split_proof.specs.pass_proofs.ir_model.declared.operand.Arg.{Arg}
use Rattle.pass_split_proof.specs.pass_proofs.ir_model.declared.operand.Callee.{Callee}
use Rattle.pass_split_proof.specs.pass_proofs.ir_model.declared.operand.Intrinsic.{Intrinsic}
use Rattle.pass_split_proof.specs.pass_proofs.pass_intrinsics.declared.shape.Part.{Part}
use Rattle.pass_split_proof.specs.pass_proofs.pass_split.Given.{has_given_call}
use Rattle.pass_split_proof.specs.pass_proofs.run_framed.Framed.{FramedGiven, framed_state_at}
use Rattle.pass_split_proof.specs.pass_proofs.run_source.State.{function_of}
use Rattle.pass_split_proof.specs.pass_proofs.run_source.declared.state.State.{State}
use Rattle.pass_split_proof.specs.pass_proofs.run_step.Step.{AtInstr}
use Rattle.pass_split_proof.specs.given_begins.Runs.{GivesBlocks, NestsNoFrames}
use Rattle.pass_split_proof.specs.held.Kept.{DoGivenFramesLive}
use Rattle.pass_split_proof.specs.simulation.Premises.{IsAt, IsAtPlace}
use Rattle.pass_split_proof.specs.states.Related.{AreRelated}
use Rattle.run_access_worked.specs.run_plain.Plain.{PlainGiven}
use Rattle.run_access_worked.specs.run_plain.declared.state.PlainState.{PlainState}
use Rattle.pass_split_proof.specs.whole.Giving.{AreGivenPlacesMet, AsksSmall, SavesUnfinished, StartsNoFrame, here_of}

-- A run gives frames well: each lives while its instance isn't Finished, and lies in a stack block of its own
-- coroutine. No marker starts that block before. An allocator is asked for less than 2^64 bytes.
pub record GivesFramesWell (g : FramedGiven) (entry : ℕ) (args : List Word) : Type 0 where
  pub live : DoGivenFramesLive g entry args
  pub blocks : GivesBlocks g entry args
  pub starts : (n : ℕ) → (framed_state_at g entry args n).outcome ≡ Outcome.Running
      → StartsNoFrame g (framed_state_at g entry args n) (here_of g (framed_state_at g entry args n))
  pub saves : (n : ℕ) → (framed_state_at g entry args n).outcome ≡ Outcome.Running
      → SavesUnfinished g (framed_state_at g entry args n) (here_of g (framed_state_at g entry args n))
  pub small : (n : ℕ) → (framed_state_at g entry args n).outcome ≡ Outcome.Running
      → AsksSmall g (framed_state_at g entry args n) (here_of g (framed_state_at g entry args n))

-- all that is asked
pub record AreGivenPremisesMet (g : FramedGiven) (h : PlainGiven) : Type 0 where
  pub nests : NestsNoFrames g
  pub places : (s : State) (t : PlainState) (r : AreRelated g h s t) → AreGivenPlacesMet g h s t r

-- A part that a resume calls comes to no release of a coroutine to which calls give frames.
abbrev pub ReleasesWhenDestroyed : FramedGiven → PlainGiven → Type 0
ReleasesWhenDestroyed g h = (s : State) (t : PlainState) (r : AreRelated g h s t) (result : Option ℕ)
    (must_tail : Bool) (ty : Option Ty) (args : List Arg)
    → IsAt g s (AtInstr (Instr.Call result must_tail ty (Callee.Intrinsic Intrinsic.CoroFree) args))
    → IsAtPlace g h s t r → r.top.part ≡ Part.Resume → has_given_call g.given.code (function_of g.given s) ≡ false
