use Rattle.pass_elide_proof.proofs.GivenBegins.{given_begin_beside}
use Rattle.pass_elide_proof.proofs.beginning.given_begins_stay_beside.Goals as goal

pub returns : goal.returns
returns c = given_begin_beside
