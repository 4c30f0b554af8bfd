use Rattle.pass_split_proof.proofs.steps.Done.{done_too}
use Rattle.pass_split_proof.proofs.steps.steps_are_done_in_parts.Goals as goal

pub returns : goal.returns
returns c g instances m n answers f q functions labels w x here there v beside room k touch no_slot is
    = done_too g instances m n answers f q functions labels w x beside room here there k touch no_slot v is
