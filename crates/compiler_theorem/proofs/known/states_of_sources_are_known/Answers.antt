use Rattle.compiler_theorem.proofs.known.Runs.{known, pointing, sized}
use Rattle.compiler_theorem.proofs.known.states_of_sources_are_known.Goals as goal

pub returns-clause-known : goal.returns-clause-known
returns-clause-known c = known

pub returns-clause-pointing : goal.returns-clause-pointing
returns-clause-pointing c = pointing

pub returns-clause-sized : goal.returns-clause-sized
returns-clause-sized c = sized
