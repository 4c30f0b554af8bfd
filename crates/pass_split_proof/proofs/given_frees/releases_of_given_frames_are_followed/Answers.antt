use Rattle.pass_split_proof.proofs.given_frees.Freed.{given_free_followed}
use Rattle.pass_split_proof.proofs.given_frees.releases_of_given_frames_are_followed.Goals as goal

pub returns : goal.returns
returns c g h s t r runs k kept given = given_free_followed g h s t r runs k kept given
