use Rattle.pass_elide_proof.proofs.Allocas.{knows_allocas}
use Rattle.pass_elide_proof.proofs.Given.{given_of, own_of, unowned_of}
use Rattle.pass_elide_proof.proofs.Slotted.{frame_allocated, frame_dead, slotted_frames}
use Rattle.pass_elide_proof.proofs.sound.sound_states_have_frames.Goals as goal

pub returns-clause-allocas : goal.returns-clause-allocas
returns-clause-allocas c = knows_allocas

pub returns-clause-frames : goal.returns-clause-frames
returns-clause-frames c = slotted_frames

pub returns-clause-unowned : goal.returns-clause-unowned
returns-clause-unowned c = unowned_of

pub returns-clause-given : goal.returns-clause-given
returns-clause-given c = given_of

pub returns-clause-allocated : goal.returns-clause-allocated
returns-clause-allocated c = frame_allocated

pub returns-clause-dead : goal.returns-clause-dead
returns-clause-dead c = frame_dead

pub returns-clause-own : goal.returns-clause-own
returns-clause-own c = own_of
