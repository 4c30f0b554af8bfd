use Rattle.pass_split_proof.proofs.steps.Followed.{straight_followed, through_followed}
use Rattle.pass_split_proof.proofs.steps.edges_are_followed.Goals as goal

pub returns-clause-straight : goal.returns-clause-straight
returns-clause-straight c = straight_followed

pub returns-clause-through : goal.returns-clause-through
returns-clause-through c = through_followed
