use Rattle.pass_elide_proof.proofs.FrontsMade.{fronts_made, places_ready}
use Rattle.pass_elide_proof.proofs.calling.fronts_are_made.Goals as goal

pub returns-clause-first : goal.returns-clause-first
returns-clause-first c = fronts_made

pub returns-clause-other : goal.returns-clause-other
returns-clause-other c = places_ready
