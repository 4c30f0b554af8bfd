use Rattle.pass_split_proof.proofs.given_begins.Owners.{owner_beside, owner_frames}
use Rattle.pass_split_proof.proofs.given_begins.owners_change_beside.Goals as goal

pub returns-clause-beside : goal.returns-clause-beside
returns-clause-beside c g xs m n b f change u there none frames beside
    = owner_beside g xs m n b f change u there none beside frames.laid

pub returns-clause-frames : goal.returns-clause-frames
returns-clause-frames c g xs m n b f change u there none frames = owner_frames g xs m n b f change u there none frames
