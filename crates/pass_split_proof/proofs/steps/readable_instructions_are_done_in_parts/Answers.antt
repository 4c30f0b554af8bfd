use Rattle.pass_split_proof.proofs.steps.Ready.{done}
use Rattle.pass_split_proof.proofs.steps.readable_instructions_are_done_in_parts.Goals as goal

pub returns : goal.returns
returns c g instances m n answers f q functions w x i v globals values k beside
    = done g instances m n answers f q functions w x globals values i k beside v
