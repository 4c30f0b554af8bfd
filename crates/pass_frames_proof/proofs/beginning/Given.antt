-- All that is known where both runs stand at a begin.
use Rattle.std.proofs.Common.{Bool, Option, ℕ}
use Rattle.pass_frames_steps.specs.ir_model.Ty.{Ty}
use Rattle.pass_frames_steps.specs.ir_model.declared.operand.Arg.{Arg}
use Rattle.pass_frames_steps.specs.ir_model.declared.operand.Operand.{Operand}
use Rattle.pass_frames_steps.specs.Beginning.{HasLiveTemporaries, HasPlainSlots, IsAtBegin}
use Rattle.pass_frames_steps.specs.Related.{AreBuiltOf, Building}
use Rattle.pass_frames_steps.specs.Slotted.{HasListedSlots, HasSlotsApart, HasSlotsThere}
use Rattle.pass_frames_steps.specs.Stepping.{AreGiven}
use Rattle.pass_frames_steps.specs.Temporaries.{HasLedSlots}
use Rattle.pass_frames_steps.specs.pass_renewed_proof.Renewed.{RenewedGiven}
use Rattle.pass_frames_steps.specs.run_source.declared.state.State.{State}

pub record Begins : Type 0 where
  pub b : Building
  pub g : RenewedGiven
  pub given : AreGiven b g
  pub s : State
  pub t : State
  pub r : AreBuiltOf b s t
  pub result : Option ℕ
  pub must_tail : Bool
  pub ty : Option Ty
  pub id : Arg
  pub typed : Ty
  pub memory : Operand
  pub block : ℕ
  pub h : IsAtBegin b g s result must_tail ty id typed memory block
  pub listed : HasListedSlots s
  pub mine : HasSlotsThere s
  pub theirs : HasPlainSlots b t
  pub apart : HasSlotsApart t
  pub led : HasLedSlots t
  pub live : HasLiveTemporaries b t
