use Rattle.run_laws.proofs.transfer.Places.{blank_room, fewer_stand, forgotten, given_back, grown, hidden_stand, raised, seated}
use Rattle.run_laws.proofs.transfer.homes_change.Goals as goal

pub returns-clause-seated : goal.returns-clause-seated
returns-clause-seated c = seated

pub returns-clause-blank : goal.returns-clause-blank
returns-clause-blank c = blank_room

pub returns-clause-hidden : goal.returns-clause-hidden
returns-clause-hidden c = hidden_stand

pub returns-clause-fewer : goal.returns-clause-fewer
returns-clause-fewer c = fewer_stand

pub returns-clause-grown : goal.returns-clause-grown
returns-clause-grown c = grown

pub returns-clause-given_back : goal.returns-clause-given_back
returns-clause-given_back c = given_back

pub returns-clause-raised : goal.returns-clause-raised
returns-clause-raised c = raised

pub returns-clause-forgotten : goal.returns-clause-forgotten
returns-clause-forgotten c = forgotten
