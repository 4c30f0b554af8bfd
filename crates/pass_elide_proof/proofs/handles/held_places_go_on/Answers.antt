use Rattle.pass_elide_proof.proofs.Holding.{called, ends, on}
use Rattle.pass_elide_proof.proofs.handles.held_places_go_on.Goals as goal

pub returns-clause-called : goal.returns-clause-called
returns-clause-called c = called

pub returns-clause-next : goal.returns-clause-next
returns-clause-next c = on

pub returns-clause-ends : goal.returns-clause-ends
returns-clause-ends c = ends
