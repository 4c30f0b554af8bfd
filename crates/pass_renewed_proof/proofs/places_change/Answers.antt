use Rattle.pass_renewed_proof.proofs.Made.{made_together}
use Rattle.pass_renewed_proof.proofs.Places.{fewer_stand, forgotten, grown, hidden_stand, killed_away, made_live, seated}
use Rattle.pass_renewed_proof.proofs.places_change.Goals as goal

pub returns-clause-seated : goal.returns-clause-seated
returns-clause-seated c = seated

pub returns-clause-hidden : goal.returns-clause-hidden
returns-clause-hidden c = λ homes hides m k n b unseen same size st. hidden_stand homes hides m k n b unseen same size st

pub returns-clause-fewer : goal.returns-clause-fewer
returns-clause-fewer c = fewer_stand

pub returns-clause-grown : goal.returns-clause-grown
returns-clause-grown c = grown

pub returns-clause-given_back : goal.returns-clause-given_back
returns-clause-given_back c = killed_away

pub returns-clause-made : goal.returns-clause-made
returns-clause-made c = λ homes m n x kind known small blank writable there st. made_together homes m n x kind known small blank writable there st

pub returns-clause-lives : goal.returns-clause-lives
returns-clause-lives c = made_live

pub returns-clause-forgotten : goal.returns-clause-forgotten
returns-clause-forgotten c = forgotten
