use Rattle.run_laws.proofs.access.Turned.{disowned_reowns, owned_reowns, same_reowns}
use Rattle.run_laws.proofs.access.owners_change.Goals as goal

pub returns-clause-own : goal.returns-clause-own
returns-clause-own c = owned_reowns

pub returns-clause-disown : goal.returns-clause-disown
returns-clause-disown c = disowned_reowns

pub returns-clause-same : goal.returns-clause-same
returns-clause-same c = same_reowns
