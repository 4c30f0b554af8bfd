use Rattle.run_laws.proofs.access.Turned.{rights_turn, worlds_turn}
use Rattle.run_laws.proofs.access.rights_may_change.Goals as goal

pub returns-clause-memory : goal.returns-clause-memory
returns-clause-memory c = rights_turn

pub returns-clause-worlds : goal.returns-clause-worlds
returns-clause-worlds c = worlds_turn
