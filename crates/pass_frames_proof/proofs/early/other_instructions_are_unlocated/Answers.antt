use Rattle.pass_frames_proof.proofs.early.Unlocated.{behind_unlocated, others_unlocated, unused_unlocated}
use Rattle.pass_frames_proof.proofs.early.other_instructions_are_unlocated.Goals as goal

pub returns-clause-others : goal.returns-clause-others
returns-clause-others c = others_unlocated

pub returns-clause-behind : goal.returns-clause-behind
returns-clause-behind c = behind_unlocated

pub returns-clause-unused : goal.returns-clause-unused
returns-clause-unused c = unused_unlocated
